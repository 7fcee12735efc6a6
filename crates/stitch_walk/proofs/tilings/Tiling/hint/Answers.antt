-- The domain has points, so there is a tile.
use Rattle.stitch_walk.proofs.Linked.{not_empty}
use Rattle.stitch_walk.proofs.tilings.Tiling.hint.Goals as goal

pub unreachable-requires : goal.unreachable-requires
unreachable-requires c = not_empty c.self.inside.store c.self.inside.domain c.self.invariant c.in-None.ensures.none
