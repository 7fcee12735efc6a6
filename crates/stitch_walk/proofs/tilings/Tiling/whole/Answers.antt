-- The one tile fills the domain.
use Rattle.stitch_walk.proofs.Linked.{put_only, whole_tiling}
use Rattle.stitch_walk.proofs.tilings.Tiling.whole.Goals as goal

pub invariant_of-result : goal.invariant_of-result
invariant_of-result c =
    whole_tiling c.put.new.self c.args.domain (put_only c.new-store.result c.reserve.new.self c.put.new.self c.put.result _ c.new-store.ensures.empty c.reserve.ensures.tiles c.put.ensures.changed) c.requires
