use Rattle.std.proofs.Common.{take}
use Rattle.rule_check.specs.Hulls.{AllLieIn}
use Rattle.rule_check.proofs.hulls.hull.Given as goal

-- the shapes so far lie in the hull
abbrev pub invariant-loop-shape : goal.invariant-loop-shape
invariant-loop-shape l = AllLieIn l.hull (take l.shape-index l.run)
