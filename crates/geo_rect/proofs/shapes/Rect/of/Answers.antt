use Rattle.std.proofs.Common.{arith}
use Rattle.std.proofs.lemmas.Int.{ints}
use Rattle.geo_rect.proofs.Same.{same_interval, same_rect}
use Rattle.geo_rect.proofs.shapes.Rect.of.Goals as goal

pub returns : goal.returns
returns c =
    same_rect _ _
    (same_interval _ _ (omega (arith, ints)) (omega (arith, ints)))
    (same_interval _ _ (omega (arith, ints)) (omega (arith, ints)))
