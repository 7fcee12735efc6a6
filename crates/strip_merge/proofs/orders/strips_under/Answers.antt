-- One number more, and the piece under it.
use Rattle.std.proofs.Common.{◌<◌, length, arith}
use Rattle.stitch_walk.proofs.Filled.{piece_of_tile}
use Rattle.strip_merge.proofs.Under.{under_step}
use Rattle.strip_merge.proofs.orders.strips_under.Goals as goal

pub loop-id-preserved : goal.loop-id-preserved
loop-id-preserved g c =
    let within : c.loop-id.id-index < length c.args.ids.now = omega arith in
    under_step c.args.tiling.now.store c.args.ids.now c.loop-id.id-index (record { 0 = 0 }) c.loop-id.found c.push.new.self _ within c.loop-id.invariant
    (piece_of_tile c.args.tiling.now.store _ c.tile-tile.result c.tile-tile.ensures.tile) c.in_ok-push.ensures.ok
