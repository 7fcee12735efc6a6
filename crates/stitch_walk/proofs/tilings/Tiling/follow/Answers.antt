-- The stitch names the tile that has its point.
use Rattle.std.proofs.Common.{◌∙◌, sym}
use Rattle.stitch_walk.proofs.Linked.{tiling_now}
use Rattle.stitch_walk.proofs.Reaching.{stitch_holds}
use Rattle.stitch_walk.proofs.tilings.Tiling.follow.Goals as goal

pub returns : goal.returns
returns c =
    let is = tiling_now c.self.inside.store c.self.inside.domain _ c.self.view_is c.self.invariant in
    stitch_holds c.args.self.now.store c.args.self.now.domain _ _ c.in-Some.next (is.linked.stitched c.args.side c.args.id c.args.t.now c.requires.there) (sym c.stitch.ensures ∙ c.in-Some.is)
