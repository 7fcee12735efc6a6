-- Each tile lies in the domain.
use Rattle.stitch_walk.proofs.Linked.{small_tile}
use Rattle.stitch_walk.proofs.tilings.Tiling.tile.Goals as goal

pub returns-clause-small : goal.returns-clause-small
returns-clause-small g c = small_tile c.self.inside.store c.self.inside.domain c.args.id c.read.result c.self.invariant c.read.ensures.tile
