-- Values that are given by row and column, one by one, and laid out at last.
use Rattle.std.specs.Prelude.{ℕ, ◌==◌, Bool, ◌&&◌, if◌then◌else◌, List, [], ◌∷◌, Option, Some, None, is_some}
use Rattle.std.specs.List.{range_with_len, flat_map, filter_map, list_all}
use Rattle.board_reader.specs.declared.tables.Entry.{Entry}

-- the first value given for a row and a column
unfoldable pub value_at : {T : Type 0} → List (Entry T) → ℕ → ℕ → Option T
value_at [] row column = None
value_at (e ∷ es) row column = if e.row == row && e.column == column then Some e.value else value_at es row column

-- whether each column has a value in the row
abbrev pub is_full_row : {T : Type 0} → List (Entry T) → ℕ → ℕ → Bool
is_full_row es columns row = list_all (λ column. is_some (value_at es row column)) (range_with_len 0 columns)

-- whether each row and column has a value
abbrev pub is_full : {T : Type 0} → List (Entry T) → ℕ → ℕ → Bool
is_full es rows columns = list_all (is_full_row es columns) (range_with_len 0 rows)

-- the values of a row, column by column
abbrev pub row_of : {T : Type 0} → List (Entry T) → ℕ → ℕ → List T
row_of es columns row = filter_map (value_at es row) (range_with_len 0 columns)

-- the values row by row
abbrev pub table : {T : Type 0} → List (Entry T) → ℕ → ℕ → List T
table es rows columns = flat_map (row_of es columns) (range_with_len 0 rows)
