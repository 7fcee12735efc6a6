use Rattle.std.proofs.Common.{◌≡◌, ◌++◌, drop}
use Rattle.board_model.specs.Violations.{violations_of}
use Rattle.rule_check.proofs.checks.push_violations.Given as goal

-- what is found, with what the rest of the shapes has, is all
abbrev pub invariant-loop-i : goal.invariant-loop-i
invariant-loop-i l =
    l.found ++ violations_of l.board.parts (drop l.i l.shapes) ≡ l.initial.found ++ violations_of l.board.parts l.shapes
