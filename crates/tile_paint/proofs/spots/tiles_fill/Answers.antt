use Rattle.stitch_walk.proofs.Filled.{filled}
use Rattle.stitch_walk.proofs.Linked.{tiling_now}
use Rattle.tile_paint.proofs.spots.tiles_fill.Goals as goal

pub returns-clause-filled : goal.returns-clause-filled
returns-clause-filled c = filled c.args.t.now.store c.args.t.now.domain (tiling_now c.t.inside.store c.t.inside.domain c.args.t.now c.t.view_is c.t.invariant)
