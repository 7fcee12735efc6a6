use Rattle.std.proofs.Common.{◌≡◌, ◌≤◌, ◌-◌, ◌*◌, length}
use Rattle.rule_check.specs.Hulls.{AreHulls}
use Rattle.rule_check.proofs.hulls.hulls.Given as goal

-- the hulls are those of the runs before the place
abbrev pub invariant-loop-place : goal.invariant-loop-place
invariant-loop-place l = record {
  inside : l.place ≤ length l.shapes;
  count : l.place ≡ length l.hulls * l.size;
  each : AreHulls l.shapes l.size l.hulls;
}

abbrev pub decreases-loop-place : goal.decreases-loop-place
decreases-loop-place l = length l.shapes - l.place
