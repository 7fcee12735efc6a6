use Rattle.stitch_walk.proofs.Filled.{filled}
use Rattle.stitch_walk.proofs.Linked.{tiling_now}
use Rattle.tile_paint.proofs.spots.look.Goals as goal

pub returns-then-not-has_point-clause-filled : goal.returns-then-not-has_point-clause-filled
returns-then-not-has_point-clause-filled c = filled c.args.t.now.store c.args.t.now.domain (tiling_now c.t.inside.store c.t.inside.domain c.args.t.now c.t.view_is c.t.invariant)
