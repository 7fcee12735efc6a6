use Rattle.stitch_walk.proofs.Linked.{tiling_now}
use Rattle.strip_merge.proofs.Only.{only_stitched, only_strips}
use Rattle.strip_merge.proofs.planes.StitchedPlanePlane.new.Goals as goal

pub invariant_of-result : goal.invariant_of-result
invariant_of-result c =
    let is = tiling_now c.tiling.inside.store c.tiling.inside.domain c.in_ok-tiling.tiling c.tiling.view_is c.tiling.invariant in
    only_stitched c.in_ok-tiling.tiling.store c.in_ok-tiling.tiling.domain c.args.domain is c.in_ok-tiling.ensures.tiles

pub returns-clause-strips : goal.returns-clause-strips
returns-clause-strips c =
    let is = tiling_now c.tiling.inside.store c.tiling.inside.domain c.in_ok-tiling.tiling c.tiling.view_is c.tiling.invariant in
    only_strips c.in_ok-tiling.tiling.store c.in_ok-tiling.tiling.domain c.args.domain is c.in_ok-tiling.ensures.tiles
