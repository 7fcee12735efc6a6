use Rattle.std.proofs.Common.{pos, ◌≤ℤ◌, All, take}
use Rattle.board_parts.specs.declared.parts.Rule.{Rule}
use Rattle.rule_check.proofs.bounds.greatest_of_rules.Given as goal

-- no rule so far has a greater gap
abbrev pub invariant-loop-rule : goal.invariant-loop-rule
invariant-loop-rule l = record {
  some : pos 1 ≤ℤ l.most;
  all : All (λ (r : Rule). r.gap ≤ℤ l.most) (take l.rule-index l.rules);
}
