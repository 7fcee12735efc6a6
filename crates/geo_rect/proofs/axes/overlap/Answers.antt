use Rattle.std.proofs.Common.{arith}
use Rattle.std.proofs.lemmas.Int.{ints, clamps}
use Rattle.geo_rect.proofs.axes.overlap.Goals as goal

pub returns-then-low-high-clause-none : goal.returns-then-low-high-clause-none
returns-then-low-high-clause-none c v h k = omega (arith, ints, clamps)

pub returns-clause-some : goal.returns-clause-some
returns-clause-some c = record {
  first = λ v h. record { from = omega (arith, ints, clamps); to = omega (arith, ints, clamps) };
  second = λ v h. record { from = omega (arith, ints, clamps); to = omega (arith, ints, clamps) };
  all = λ v h k. record { from = omega (arith, ints, clamps); to = omega (arith, ints, clamps) };
}
