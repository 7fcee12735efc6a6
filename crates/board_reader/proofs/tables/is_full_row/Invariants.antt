use Rattle.std.proofs.Common.{◌≡◌, ◌-◌}
use Rattle.std.specs.Prelude.{is_some}
use Rattle.std.specs.List.{range_with_len, list_all}
use Rattle.board_reader.specs.Tables.{value_at, is_full_row}
use Rattle.board_reader.proofs.tables.is_full_row.Given as goal

abbrev pub invariant-loop-column : goal.invariant-loop-column
invariant-loop-column g l = list_all (λ column. is_some (value_at l.entries l.row column)) (range_with_len l.column (l.columns - l.column)) ≡ is_full_row l.entries l.columns l.row
