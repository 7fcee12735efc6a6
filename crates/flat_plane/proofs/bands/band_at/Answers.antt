use Rattle.std.proofs.Common.{ℤ, pos, ◌-ℤ◌, ◌+ℤ◌, ◌≡◌, sym, subst, ap, ◌∙◌, arith}
use Rattle.std.proofs.lemmas.Int.{ints}
use Rattle.geo_rect.specs.declared.shapes.Interval.{Interval}
use Rattle.geo_rect.specs.Axis.{HasNumber, LiesWithin}
use Rattle.geo_rect.specs.Plane.{rows}
use Rattle.plane_core.proofs.Runs.{within_has}
use Rattle.flat_plane.specs.Painting.{IsLeftEnd, IsRightEnd}
use Rattle.flat_plane.proofs.BandFacts.{beyond_from, capped_on}
use Rattle.flat_plane.proofs.bands.band_at.Goals as goal

pub returns-clause-band : goal.returns-clause-band
returns-clause-band c =
    let strips = c.args.strips.now in
    let brush = c.args.brush in
    let low : Interval → ℤ = λ i. i.low in
    let high : Interval → ℤ = λ i. i.high in
    let col0 : c.columns-columns.result.low ≡ brush.area.x0 = ap low c.columns-columns.ensures in
    let col1 : c.columns-columns.result.high ≡ brush.area.x1 = ap high c.columns-columns.ensures in
    let r1 = c.requires.inside.from in let r2 = c.requires.inside.to in let ro = c.args.rest.ordered in
    let foot : HasNumber (rows brush.area) c.args.rest.low = record { from = omega (arith, ints); to = omega (arith, ints) } in
    let foot' : HasNumber (rows brush.domain) c.args.rest.low = within_has (rows brush.area) (rows brush.domain) c.args.rest.low c.requires.can_paint.inside.up foot in
    let U : ℤ → Type 0 = λ v. HasNumber (rows brush.domain) v in
    let xb = c.point_before.ensures.x in let xa = c.point_after.ensures.x in
    let l1 = c.capped.ensures.low in let l2 = c.capped-2.ensures.low in let h1 = c.capped.ensures.high in let h2 = c.capped-2.ensures.high in
    let within_first : LiesWithin c.capped-2.result c.capped.result = record { from = omega (arith, ints); to = omega (arith, ints) } in
    let LE : ℤ → Type 0 = λ v. IsLeftEnd v brush.label c.strip_at-left.result c.grown_right.result.low in
    let LV : ℤ → Type 0 = λ v. IsLeftEnd c.columns-columns.result.low brush.label c.strip_at-left.result v in
    let RE : ℤ → Type 0 = λ v. IsRightEnd v brush.label c.strip_at-right.result c.grown_right.result.high in
    record {
      rows_inside = record { from = omega (arith, ints); to = omega (arith, ints) };
      left = beyond_from strips brush.domain (brush.area.x0 -ℤ pos 1) c.capped-2.result c.point_before.result c.strip_at-left.result c.strip_at-left.ensures
          (omega (arith, ints)) (subst U (sym c.point_before.ensures.y) foot')
          (capped_on c.capped.result c.capped-2.result c.strip_at-left.result within_first c.capped.ensures.capped);
      right = beyond_from strips brush.domain (brush.area.x1 +ℤ pos 1) c.capped-2.result c.point_after.result c.strip_at-right.result c.strip_at-right.ensures
          (omega (arith, ints)) (subst U (sym c.point_after.ensures.y) foot') c.capped-2.ensures.capped;
      left_end = subst LE col0 (subst LV (sym c.grown_right.ensures.low) c.grown_left-across.ensures.low);
      right_end = subst RE (c.grown_left-across.ensures.high ∙ col1) c.grown_right.ensures.high;
    }
