-- From tile to tile in a straight line, until one goes as far as the point.
use Rattle.stitch_walk.proofs.Linked.{small_tile}
use Rattle.stitch_walk.proofs.Reaching.{go_begins, go_past, go_inside, go_goes_on, columns_left_fall, go_reaches, go_level, when_true, when_false, past_by, inside_by, holds_by}
use Rattle.stitch_walk.proofs.tilings.Tiling.go_straight.Goals as goal

pub loop-side-init : goal.loop-side-init
loop-side-init g c =
    go_begins c.args.self.now c.tile-tile.ensures.tiling.linked c.args.side c.args.id c.args.p c.requires.point c.tile-tile.result c.requires.level c.tile-tile.ensures.tile

pub beside-requires : goal.beside-requires
beside-requires g c = small_tile c.args.self.now.store c.args.self.now.domain c.loop-side.at c.loop-side.tile c.tile-tile.ensures.tiling c.loop-side.invariant.is_there

pub go_across-at-requires-clause-past : goal.go_across-at-requires-clause-past
go_across-at-requires-clause-past g c =
    past_by c.args.self.now.store c.args.side c.loop-side.at _ _ c.beside.ensures (go_past c.args.self.now c.tile-tile.ensures.tiling.linked c.args.side c.args.id c.args.p c.requires.point c.loop-side.at c.loop-side.tile c.loop-side.invariant)

pub go_across-at-requires-clause-point : goal.go_across-at-requires-clause-point
go_across-at-requires-clause-point g c =
    let after = when_true _ _ c.begins_after.ensures c.loop-side-test.true in
    inside_by c.args.self.now.domain _ _ c.beside.ensures (go_inside c.args.self.now c.tile-tile.ensures.tiling.linked c.args.side c.args.id c.args.p c.requires.point c.loop-side.at c.loop-side.tile c.loop-side.invariant after)

pub loop-side-smaller : goal.loop-side-smaller
loop-side-smaller g c =
    let after = when_true _ _ c.begins_after.ensures c.loop-side-test.true in
    columns_left_fall c.args.self.now c.tile-tile.ensures.tiling.linked c.args.side c.args.id c.args.p c.requires.point c.loop-side.at c.loop-side.tile c.loop-side.invariant c.go_across-at.result c.tile-tile-in-loop-side.result after (holds_by c.args.self.now.store _ _ _ c.beside.ensures c.go_across-at.ensures) c.tile-tile-in-loop-side.ensures.tile

pub loop-side-preserved : goal.loop-side-preserved
loop-side-preserved g c =
    let after = when_true _ _ c.begins_after.ensures c.loop-side-test.true in
    go_goes_on c.args.self.now c.tile-tile.ensures.tiling.linked c.args.side c.args.id c.args.p c.requires.point c.loop-side.at c.loop-side.tile c.loop-side.invariant c.go_across-at.result c.tile-tile-in-loop-side.result after (holds_by c.args.self.now.store _ _ _ c.beside.ensures c.go_across-at.ensures) c.tile-tile-in-loop-side.ensures.tile

pub returns-clause-level : goal.returns-clause-level
returns-clause-level g c =
    go_level c.args.self.now c.tile-tile.ensures.tiling.linked c.args.side c.args.id c.args.p c.requires.point c.loop-side.at c.loop-side.tile c.loop-side.invariant

pub returns-clause-reaches : goal.returns-clause-reaches
returns-clause-reaches g c =
    go_reaches c.args.self.now c.tile-tile.ensures.tiling.linked c.args.side c.args.id c.args.p c.requires.point c.loop-side.at c.loop-side.tile c.loop-side.invariant (when_false _ _ c.begins_after.ensures c.loop-side-test.false)

pub returns-clause-kept : goal.returns-clause-kept
returns-clause-kept g c = c.loop-side.invariant.kept
