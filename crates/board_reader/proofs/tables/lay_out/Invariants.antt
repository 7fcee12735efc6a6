use Rattle.std.proofs.Common.{◌≡◌, ◌-◌, ◌++◌}
use Rattle.std.specs.List.{range_with_len, flat_map}
use Rattle.board_reader.specs.Tables.{row_of, table}
use Rattle.board_reader.proofs.tables.lay_out.Given as goal

abbrev pub invariant-loop-row : goal.invariant-loop-row
invariant-loop-row g l =
    l.list ++ flat_map (row_of l.entries l.columns) (range_with_len l.row (l.rows - l.row)) ≡ l.fn.list ++ table l.entries l.rows l.columns
