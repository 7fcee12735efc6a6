use Rattle.std.proofs.Common.{arith, rules}
use Rattle.std.proofs.lemmas.Int.{ints}
use Rattle.board_model.proofs.outlines.has_area.Goals as goal

pub returns : goal.returns
returns c = (
  λ _. record {
    left = omega (arith, ints);
    below = omega (arith, ints);
    right = omega (arith, ints);
    above = omega (arith, ints);
  },
  λ _. search rules,
)
