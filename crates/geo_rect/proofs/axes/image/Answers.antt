use Rattle.std.proofs.Common.{arith, ◌<ℤ◌, ◌≤ℤ◌}
use Rattle.std.proofs.lemmas.Int.{ints, clamps, by_lt_z}
use Rattle.geo_rect.proofs.Steps.{image_from}
use Rattle.geo_rect.proofs.Steps.Place.{before, inside, after}
use Rattle.geo_rect.proofs.axes.image.Goals as goal

pub returns : goal.returns
returns c =
    let v = c.args.v in
    let e = c.args.e in
    let o = e.ordered in
    image_from e v _
    (by_lt_z v e.low
    (λ (h : v <ℤ e.low). before h (omega (arith, ints, clamps)))
    (λ (h : e.low ≤ℤ v). by_lt_z e.high v
    (λ (k : e.high <ℤ v). after k (omega (arith, ints, clamps)))
    (λ (k : v ≤ℤ e.high). inside h k (omega (arith, ints, clamps)))))
