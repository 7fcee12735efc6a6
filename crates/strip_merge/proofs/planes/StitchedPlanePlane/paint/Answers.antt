use Rattle.stitch_walk.proofs.Linked.{tiling_now}
use Rattle.strip_merge.proofs.Forming.{painted_now, stitched_plane}
use Rattle.strip_merge.proofs.planes.StitchedPlanePlane.paint.Goals as goal

pub returns-clause-labels : goal.returns-clause-labels
returns-clause-labels c =
    let is = tiling_now c.tiling.inside.store c.tiling.inside.domain c.in_ok-tiling.tiling c.tiling.view_is c.tiling.invariant in
    painted_now c.self.inside.tiling c.args.self c.in_ok-tiling.tiling c.args.area c.args.label c.self.invariant c.self.view_is is
    c.in_ok-tiling.ensures.domain (record { within = c.in_ok-tiling.ensures.within; elsewhere = c.in_ok-tiling.ensures.elsewhere })

pub returns-clause-canonical : goal.returns-clause-canonical
returns-clause-canonical c =
    let is = tiling_now c.tiling.inside.store c.tiling.inside.domain c.in_ok-tiling.tiling c.tiling.view_is c.tiling.invariant in
    stitched_plane c.in_ok-tiling.tiling.store c.in_ok-tiling.tiling.domain (record { tiling = is; maximal = c.in_ok-tiling.ensures.maximal })
