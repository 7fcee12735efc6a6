use Rattle.std.proofs.Common.{◌≡◌, ◌++◌, ◌-◌, length, drop}
use Rattle.board_model.specs.Violations.{close_of}
use Rattle.rule_check.proofs.later.push_later.Given as goal

-- what is found, with what the rest of the shapes has, is all
abbrev pub invariant-loop-place : goal.invariant-loop-place
invariant-loop-place l =
    l.found ++ close_of l.board.parts l.shape (drop l.place l.shapes) ≡ l.initial.found ++ close_of l.board.parts l.shape (drop l.from l.shapes)

abbrev pub decreases-loop-place : goal.decreases-loop-place
decreases-loop-place l = length l.shapes - l.place
