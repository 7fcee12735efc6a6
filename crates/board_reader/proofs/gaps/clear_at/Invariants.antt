use Rattle.std.proofs.Common.{◌≡◌, drop}
use Rattle.board_reader.specs.Gaps.{clear_at}
use Rattle.board_reader.proofs.gaps.clear_at.Given as goal

abbrev pub invariant-loop-clear : goal.invariant-loop-clear
invariant-loop-clear l = clear_at (drop l.clear-index l.clears) l.layer l.one l.other ≡ clear_at l.clears l.layer l.one l.other
