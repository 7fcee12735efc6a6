use Rattle.std.proofs.Common.{◌≡◌, ◌-◌, ◌++◌}
use Rattle.std.specs.List.{range_with_len, filter_map}
use Rattle.board_reader.specs.Tables.{value_at, row_of}
use Rattle.board_reader.proofs.tables.push_row.Given as goal

abbrev pub invariant-loop-column : goal.invariant-loop-column
invariant-loop-column g l =
    l.list ++ filter_map (value_at l.entries l.row) (range_with_len l.column (l.columns - l.column)) ≡ l.fn.list ++ row_of l.entries l.columns l.row
