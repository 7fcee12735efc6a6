use Rattle.std.proofs.Common.{pos, ◌+ℤ◌}
use Rattle.stitch_walk.proofs.Reaching.{when_true, when_false}
use Rattle.tile_paint.proofs.Axes.{less_from}
use Rattle.tile_paint.proofs.Capping.{capping_begins, row_of_band, capping_goes_on, further, capping_ends_outside, capping_ends_past, columns_left_fall}
use Rattle.tile_paint.proofs.Widening.{small_in, band_in}
use Rattle.tile_paint.proofs.bands.first_band.Goals as goal

pub loop-area-init : goal.loop-area-init
loop-area-init c =
    capping_begins c.args.t.now.store c.args.area c.args.at c.rest_from-rest.result c.capped-band.result c.point_before.result c.first_point-next.result c.requires.row
    c.rest_from-rest.ensures.left c.rest_from-rest.ensures.right c.rest_from-rest.ensures.low c.rest_from-rest.ensures.high
    c.point_before.ensures.x c.point_before.ensures.y c.first_point-next.ensures.x c.first_point-next.ensures.y c.capped-band.ensures

pub is_near-requires : goal.is_near-requires
is_near-requires c = small_in c.args.area c.args.t.now.domain c.requires.inside c.tiles_fill.ensures.small

pub returns-in_default-clause-first : goal.returns-in_default-clause-first
returns-in_default-clause-first c = c.loop-area.invariant.first

pub returns-in_default-clause-band : goal.returns-in_default-clause-band
returns-in_default-clause-band c = c.loop-area.invariant.band_of

pub returns-in_default-clause-tall : goal.returns-in_default-clause-tall
returns-in_default-clause-tall c =
    capping_ends_outside c.args.t.now.store c.args.t.now.domain c.tiles_fill.ensures.filled c.args.area c.args.at c.loop-area.band c.loop-area.next c.loop-area.invariant c.requires.inside c.requires.row c.in_default.ensures.none

pub returns-in_default-clause-small : goal.returns-in_default-clause-small
returns-in_default-clause-small c = small_in c.loop-area.band c.args.t.now.domain (band_in c.args.area c.loop-area.band c.args.t.now.domain c.loop-area.invariant.band_of c.requires.inside) c.tiles_fill.ensures.small

pub up_to-band-requires : goal.up_to-band-requires
up_to-band-requires c =
    row_of_band c.args.t.now.store c.args.t.now.domain c.tiles_fill.ensures.filled c.args.area c.args.at c.loop-area.band c.loop-area.next c.loop-area.invariant c.in-Some.found c.in-Some.ensures.piece c.in-Some.ensures.has_point

pub loop-area-smaller : goal.loop-area-smaller
loop-area-smaller c =
    columns_left_fall c.args.area.x1 c.loop-area.next.x c.point_after-next.result.x (when_true _ _ c.is_near.ensures c.loop-area-test.true)
    (further c.args.t.now.store c.args.t.now.domain c.tiles_fill.ensures.filled c.args.area c.args.at c.loop-area.band c.loop-area.next c.loop-area.invariant c.in-Some.found c.in-Some.ensures.piece c.in-Some.ensures.has_point c.up_to-band.result c.point_after-next.result c.up_to-band.ensures c.point_after-next.ensures.x c.point_after-next.ensures.y)

pub loop-area-preserved : goal.loop-area-preserved
loop-area-preserved c =
    capping_goes_on c.args.t.now.store c.args.t.now.domain c.tiles_fill.ensures.filled c.args.area c.args.at c.loop-area.band c.loop-area.next c.loop-area.invariant c.in-Some.found c.in-Some.ensures.piece c.in-Some.ensures.has_point c.up_to-band.result c.point_after-next.result c.up_to-band.ensures c.point_after-next.ensures.x c.point_after-next.ensures.y

pub returns-clause-first : goal.returns-clause-first
returns-clause-first c = c.loop-area.invariant.first

pub returns-clause-band : goal.returns-clause-band
returns-clause-band c = c.loop-area.invariant.band_of

pub returns-clause-tall : goal.returns-clause-tall
returns-clause-tall c =
    capping_ends_past c.args.t.now.store c.args.t.now.domain c.tiles_fill.ensures.filled c.args.area c.args.at c.loop-area.band c.loop-area.next c.loop-area.invariant
    (less_from c.loop-area.next.x (c.args.area.x1 +ℤ pos 1) (when_false _ _ c.is_near.ensures c.loop-area-test.false))

pub returns-clause-small : goal.returns-clause-small
returns-clause-small c = small_in c.loop-area.band c.args.t.now.domain (band_in c.args.area c.loop-area.band c.args.t.now.domain c.loop-area.invariant.band_of c.requires.inside) c.tiles_fill.ensures.small
