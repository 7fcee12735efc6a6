use Rattle.std.proofs.Common.{rules, arith}
use Rattle.std.proofs.lemmas.Int.{ints}
use Rattle.strip_merge.proofs.tests.lies_in.Goals as goal

pub returns : goal.returns
returns c = (
  λ _. record {
    across = record { from = omega (arith, ints); to = omega (arith, ints) };
    up = record { from = omega (arith, ints); to = omega (arith, ints) };
  },
  λ _. search rules,
)
