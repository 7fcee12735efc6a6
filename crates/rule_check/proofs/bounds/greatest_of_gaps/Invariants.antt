use Rattle.std.proofs.Common.{pos, ◌≤ℤ◌, All, take}
use Rattle.rule_check.proofs.bounds.greatest_of_gaps.Given as goal

-- no gap so far is greater
abbrev pub invariant-loop-gap : goal.invariant-loop-gap
invariant-loop-gap l = record {
  some : pos 1 ≤ℤ l.most;
  all : All (λ g. g ≤ℤ l.most) (take l.gap-index l.gaps);
}
