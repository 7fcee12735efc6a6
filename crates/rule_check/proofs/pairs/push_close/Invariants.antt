use Rattle.std.proofs.Common.{◌≡◌, ◌++◌, take}
use Rattle.board_model.specs.Violations.{close_of}
use Rattle.rule_check.proofs.pairs.push_close.Given as goal

-- the violations with the later shapes so far are added
abbrev pub invariant-loop-other : goal.invariant-loop-other
invariant-loop-other l = l.found ≡ l.initial.found ++ close_of l.board.parts l.shape (take l.other-index l.later)
