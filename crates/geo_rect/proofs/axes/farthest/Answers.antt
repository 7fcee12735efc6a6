use Rattle.std.proofs.Common.{arith}
use Rattle.std.proofs.lemmas.Int.{ints, clamps}
use Rattle.geo_rect.proofs.Reaches.{far_before, far_after, far_none}
use Rattle.geo_rect.proofs.axes.farthest.Goals as goal

pub returns-then-before-max-clause-exact : goal.returns-then-before-max-clause-exact
returns-then-before-max-clause-exact c = far_before c.args.a c.args.b _ (omega (arith, ints, clamps)) (omega (arith, ints, clamps))

pub returns-then-after-gt0-clause-exact : goal.returns-then-after-gt0-clause-exact
returns-then-after-gt0-clause-exact c = far_after c.args.a c.args.b _ (omega (arith, ints, clamps)) (omega (arith, ints, clamps))

pub returns-clause-exact : goal.returns-clause-exact
returns-clause-exact c = far_none c.args.a c.args.b (omega (arith, ints, clamps)) (omega (arith, ints, clamps))

pub returns-then-before-max-clause-small : goal.returns-then-before-max-clause-small
returns-then-before-max-clause-small c = omega (arith, ints, clamps)

pub returns-then-after-gt0-clause-small : goal.returns-then-after-gt0-clause-small
returns-then-after-gt0-clause-small c = omega (arith, ints, clamps)
