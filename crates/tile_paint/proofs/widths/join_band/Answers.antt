use Rattle.std.proofs.Common.{◌∙◌, subst, sym}
use Rattle.geo_rect.specs.declared.shapes.Rect.{Rect}
use Rattle.geo_rect.specs.Plane.{LiesIn}
use Rattle.stitch_walk.proofs.Reaching.{when_true, when_false}
use Rattle.tile_paint.proofs.Axes.{at_least}
use Rattle.tile_paint.proofs.Banded.{band_joined}
use Rattle.tile_paint.proofs.Joining.{is_wide}
use Rattle.tile_paint.proofs.Narrowing.{labels_twice}
use Rattle.tile_paint.proofs.Widening.{small_in, band_in, less_left}
use Rattle.tile_paint.proofs.widths.join_band.Goals as goal

pub widened-wide-requires-clause-small : goal.widened-wide-requires-clause-small
widened-wide-requires-clause-small c = small_in c.args.band c.args.t.now.domain (band_in c.args.area c.args.band c.args.t.now.domain c.requires.band c.requires.inside) c.tiles_fill.ensures.small

pub join_next-requires-clause-wide : goal.join_next-requires-clause-wide
join_next-requires-clause-wide c = is_wide c.args.t.now.store c.args.band c.args.label c.widened-wide.result c.widened-wide.ensures.widened

pub loop-area-smaller : goal.loop-area-smaller
loop-area-smaller c = less_left c.widened-wide.result.x1 c.loop-area.joined.piece.area.x1 c.in_ok-joined-2.joined.piece.area.x1 (when_true _ _ c.ends_right.ensures c.loop-area-test.true) c.in_ok-joined-2.ensures.onward

pub loop-area-preserved : goal.loop-area-preserved
loop-area-preserved c = record {
  domain = c.join_next.ensures.domain ∙ c.loop-area.invariant.domain;
  labels = labels_twice c.args.t.now.store c.loop-area.t.store c.join_next.new.t.store c.loop-area.invariant.labels c.in_ok-joined-2.ensures.labels;
  joining = c.in_ok-joined-2.ensures.joining;
}

pub returns-clause-joined : goal.returns-clause-joined
returns-clause-joined c =
    let Q : Rect → Type 0 = λ r. LiesIn c.args.area r in
    band_joined c.args.t.now.store c.loop-area.t.store c.loop-area.t.domain c.tiles_fill-2.ensures.filled c.args.area c.args.band c.args.label c.widened-wide.result c.loop-area.joined
    (subst Q (sym c.loop-area.invariant.domain) c.requires.inside) c.requires.band c.widened-wide.ensures.widened
    (is_wide c.args.t.now.store c.args.band c.args.label c.widened-wide.result c.widened-wide.ensures.widened)
    c.loop-area.invariant.labels c.loop-area.invariant.joining
    (at_least _ _ (when_false _ _ c.ends_right.ensures c.loop-area-test.false))
