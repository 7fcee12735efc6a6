use Rattle.std.proofs.Common.{arith}
use Rattle.std.proofs.lemmas.Int.{ints}
use Rattle.geo_rect.proofs.Clamps.{images_rise, images_from}
use Rattle.geo_rect.proofs.axes.images.Goals as goal

pub invariant_of-result : goal.invariant_of-result
invariant_of-result c =
    let h = images_rise c.args.i c.args.e _ _ c.image.result c.image-2.result (omega (arith, ints)) (omega (arith, ints)) c.image.ensures c.image-2.ensures in
    record { ordered = omega (arith, ints) }

pub returns : goal.returns
returns c = images_from c.args.i c.args.e _ _ _ _ _ (omega (arith, ints)) (omega (arith, ints)) (omega (arith, ints)) (omega (arith, ints)) c.image.ensures c.image-2.ensures
