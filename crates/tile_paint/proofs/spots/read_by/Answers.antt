use Rattle.stitch_walk.proofs.Filled.{filled}
use Rattle.tile_paint.proofs.spots.read_by.Goals as goal

pub returns-clause-filled : goal.returns-clause-filled
returns-clause-filled g c = filled c.args.t.now.store c.args.t.now.domain c.tile-tile.ensures.tiling
