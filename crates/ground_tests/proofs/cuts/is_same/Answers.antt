-- Rectangles with the same corners are the same.
use Rattle.std.proofs.Common.{arith}
use Rattle.std.proofs.lemmas.Int.{ints}
use Rattle.geo_rect.specs.Plane.{columns, rows}
use Rattle.geo_rect.proofs.Same.{same_interval, same_rect}
use Rattle.ground_tests.proofs.cuts.is_same.Goals as goal

pub returns : goal.returns
returns c = λ _.
    same_rect c.args.a c.args.b
    (same_interval (columns c.args.a) (columns c.args.b) (omega (arith, ints)) (omega (arith, ints)))
    (same_interval (rows c.args.a) (rows c.args.b) (omega (arith, ints)) (omega (arith, ints)))
