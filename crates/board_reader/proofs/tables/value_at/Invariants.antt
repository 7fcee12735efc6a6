use Rattle.std.proofs.Common.{◌≡◌, drop}
use Rattle.board_reader.specs.Tables.{value_at}
use Rattle.board_reader.proofs.tables.value_at.Given as goal

abbrev pub invariant-loop-entry : goal.invariant-loop-entry
invariant-loop-entry g l = value_at (drop l.entry-index l.entries) l.row l.column ≡ value_at l.entries l.row l.column
