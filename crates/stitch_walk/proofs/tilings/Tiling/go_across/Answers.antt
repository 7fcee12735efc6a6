-- Along the neighbours on the side, up to the one that has the point.
use Rattle.plane_core.specs.Sides.{turned, turned_point}
use Rattle.stitch_walk.proofs.Reaching.{cross_begins_inside, cross_begins, cross_goes_inside, cross_goes_on, cross_rises, cross_ends, rows_left_falls, when_true, when_false, below_row, by_side, holds_by_side}
use Rattle.stitch_walk.proofs.tilings.Tiling.go_across.Goals as goal

pub follow-at-requires-clause-inside : goal.follow-at-requires-clause-inside
follow-at-requires-clause-inside g c =
    cross_begins_inside c.args.self.now c.tile-start.ensures.tiling.linked c.args.side c.args.id c.args.p c.requires.point c.tile-start.result c.requires.past c.tile-start.ensures.tile

pub loop-side-init : goal.loop-side-init
loop-side-init g c =
    cross_begins c.args.self.now c.tile-start.ensures.tiling.linked c.args.side c.args.id c.args.p c.requires.point c.tile-start.result c.requires.past c.tile-start.ensures.tile c.follow-at.result c.tile-tile.result c.follow-at.ensures c.tile-tile.ensures.tile

pub follow-at-requires-in-loop-side-clause-inside : goal.follow-at-requires-in-loop-side-clause-inside
follow-at-requires-in-loop-side-clause-inside g c =
    let short = when_true _ _ c.ends_short.ensures c.loop-side-test.true in
    by_side c.args.self.now c.args.side c.following.result c.loop-side.tile c.following.ensures (cross_goes_inside c.args.self.now c.tile-start.ensures.tiling.linked c.args.side c.args.id c.args.p c.requires.point c.loop-side.at c.loop-side.tile c.loop-side.invariant short)

pub loop-side-smaller : goal.loop-side-smaller
loop-side-smaller g c =
    let short = when_true _ _ c.ends_short.ensures c.loop-side-test.true in
    let next = holds_by_side c.args.self.now c.args.side c.following.result c.follow-at-in-loop-side.result c.loop-side.tile c.following.ensures c.follow-at-in-loop-side.ensures in
    rows_left_falls (turned_point c.args.side c.args.p).y (turned c.args.side c.loop-side.tile.area).y1 (turned c.args.side c.tile-tile-in-loop-side.result.area).y1 (below_row c.args.side c.loop-side.tile.area c.args.p short)
    (cross_rises c.args.self.now c.tile-start.ensures.tiling.linked c.args.side c.args.id c.args.p c.requires.point c.loop-side.at c.loop-side.tile c.loop-side.invariant c.follow-at-in-loop-side.result c.tile-tile-in-loop-side.result next c.tile-tile-in-loop-side.ensures.tile)

pub loop-side-preserved : goal.loop-side-preserved
loop-side-preserved g c =
    let short = when_true _ _ c.ends_short.ensures c.loop-side-test.true in
    let next = holds_by_side c.args.self.now c.args.side c.following.result c.follow-at-in-loop-side.result c.loop-side.tile c.following.ensures c.follow-at-in-loop-side.ensures in
    cross_goes_on c.args.self.now c.tile-start.ensures.tiling.linked c.args.side c.args.id c.args.p c.requires.point c.loop-side.at c.loop-side.tile c.loop-side.invariant c.follow-at-in-loop-side.result c.tile-tile-in-loop-side.result short next c.tile-tile-in-loop-side.ensures.tile

pub returns : goal.returns
returns g c =
    cross_ends c.args.self.now c.tile-start.ensures.tiling.linked c.args.side c.args.id c.args.p c.requires.point c.loop-side.at c.loop-side.tile c.loop-side.invariant (when_false _ _ c.ends_short.ensures c.loop-side-test.false)
