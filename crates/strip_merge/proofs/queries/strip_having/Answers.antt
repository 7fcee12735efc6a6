-- The tile is one of the pieces.
use Rattle.stitch_walk.proofs.Filled.{piece_of_tile}
use Rattle.strip_merge.proofs.Listing.{listed}
use Rattle.strip_merge.proofs.queries.strip_having.Goals as goal

pub returns-clause-listed : goal.returns-clause-listed
returns-clause-listed g c = listed c.args.tiling.now.store c.locate-id.result _ (piece_of_tile c.args.tiling.now.store c.locate-id.result c.tile-tile.result c.tile-tile.ensures.tile)
