use Rattle.std.proofs.Common.{arith}
use Rattle.std.proofs.lemmas.Int.{ints}
use Rattle.route_tests.proofs.places.is_on_board.Goals as goal

pub returns : goal.returns
returns c = λ t.
    let h = c.is_within.ensures t in
    record {
      layer = omega arith;
      area = record {
        left = h.left;
        below = h.below;
        right = omega (arith, ints, h.right);
        above = omega (arith, ints, h.above);
      };
    }
