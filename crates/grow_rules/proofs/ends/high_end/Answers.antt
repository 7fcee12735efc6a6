use Rattle.std.proofs.Common.{arith}
use Rattle.std.proofs.lemmas.Int.{ints, clamps}
use Rattle.grow_rules.proofs.ends.high_end.Goals as goal

pub returns : goal.returns
returns c = record {
  inside = λ v h. record { from = omega (arith, ints, clamps); to = omega (arith, ints, clamps) };
  high = λ v h. omega (arith, ints, clamps);
  all = λ v h k. record { from = omega (arith, ints, clamps); to = omega (arith, ints, clamps) };
}
