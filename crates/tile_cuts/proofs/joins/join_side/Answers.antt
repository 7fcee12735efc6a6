-- The stitch to the right names the right neighbour.
use Rattle.plane_core.specs.declared.sides.Side.TheVariants.{Right}
use Rattle.stitch_walk.specs.Pieces.{AreInLine}
use Rattle.stitch_walk.proofs.Linked.{tiling_now}
use Rattle.tile_cuts.proofs.Joining.{stitch_names, stitch_is_there, are_joinable, is_joined}
use Rattle.tile_cuts.proofs.Planning.{right_neighbour, tile_now}
use Rattle.tile_cuts.proofs.Splitting.{in_line_parts}
use Rattle.tile_cuts.proofs.joins.join_side.Goals as goal

pub join-requires : goal.join-requires
join-requires c =
    let there = tile_now c.t.inside.store c.t.inside.domain c.args.t.now c.args.id c.read.result c.t.view_is c.read.ensures in
    let is = tiling_now c.t.inside.store c.t.inside.domain c.args.t.now c.t.view_is c.t.invariant in
    are_joinable AreInLine in_line_parts c.args.t.now.store c.args.id c.requires c.in-Some.other
    (stitch_names c.args.t.now is c.args.id c.requires.other c.read.result there c.requires.second c.requires.second_is Right (right_neighbour c.args.t.now.store c.args.id c.read.result there c.requires) c.in-Some.other c.in-Some.is)

pub unreachable-requires : goal.unreachable-requires
unreachable-requires c =
    let there = tile_now c.t.inside.store c.t.inside.domain c.args.t.now c.args.id c.read.result c.t.view_is c.read.ensures in
    let is = tiling_now c.t.inside.store c.t.inside.domain c.args.t.now c.t.view_is c.t.invariant in
    stitch_is_there c.args.t.now is c.args.id c.requires.other c.read.result there c.requires.second c.requires.second_is Right (right_neighbour c.args.t.now.store c.args.id c.read.result there c.requires) c.in-None.is

pub returns-clause-joined : goal.returns-clause-joined
returns-clause-joined c =
    let there = tile_now c.t.inside.store c.t.inside.domain c.args.t.now c.args.id c.read.result c.t.view_is c.read.ensures in
    let is = tiling_now c.t.inside.store c.t.inside.domain c.args.t.now c.t.view_is c.t.invariant in
    is_joined AreInLine in_line_parts c.args.t.now.store c.args.id c.requires c.join.new.t.store c.in-Some.other
    (stitch_names c.args.t.now is c.args.id c.requires.other c.read.result there c.requires.second c.requires.second_is Right (right_neighbour c.args.t.now.store c.args.id c.read.result there c.requires) c.in-Some.other c.in-Some.is)
    c.join.ensures.joined
