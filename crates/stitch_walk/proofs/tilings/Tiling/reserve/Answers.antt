-- The tiles are as before, and so they are a tiling still.
use Rattle.stitch_walk.proofs.Linked.{tiling_still}
use Rattle.stitch_walk.proofs.tilings.Tiling.reserve.Goals as goal

pub invariant_of-self : goal.invariant_of-self
invariant_of-self c = tiling_still c.self.inside.store c.reserve.new.self c.reserve.ensures.tiles c.self.inside.domain c.self.invariant
