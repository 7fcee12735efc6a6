-- The pieces under the numbers, sorted.
use Rattle.stitch_walk.proofs.Filled.{filled}
use Rattle.stitch_walk.proofs.Linked.{tiling_now}
use Rattle.strip_merge.proofs.Under.{sorted_pieces}
use Rattle.strip_merge.proofs.orders.ordered_strips.Goals as goal

pub returns : goal.returns
returns g c =
    let s = c.args.tiling.now.store in
    let domain = c.args.tiling.now.domain in
    let is = tiling_now c.tiling.inside.store c.tiling.inside.domain c.args.tiling.now c.tiling.view_is c.tiling.invariant in
    sorted_pieces s domain c.args.ids.now c.in_ok-found.found c.put_in_order.new.strips (filled s domain is) c.requires.once c.in_ok-found.ensures c.put_in_order.ensures.same c.put_in_order.ensures.in_order
