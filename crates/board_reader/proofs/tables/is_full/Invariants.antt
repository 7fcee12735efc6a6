use Rattle.std.proofs.Common.{◌≡◌, ◌-◌}
use Rattle.std.specs.List.{range_with_len, list_all}
use Rattle.board_reader.specs.Tables.{is_full_row, is_full}
use Rattle.board_reader.proofs.tables.is_full.Given as goal

abbrev pub invariant-loop-row : goal.invariant-loop-row
invariant-loop-row g l = list_all (is_full_row l.entries l.columns) (range_with_len l.row (l.rows - l.row)) ≡ is_full l.entries l.rows l.columns
