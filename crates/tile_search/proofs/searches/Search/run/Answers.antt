use Rattle.strip_moves.specs.Grounds.{ground_of}
use Rattle.route_law.specs.Ground.{Ground}
use Rattle.tile_search.proofs.Rights.{is_right}
use Rattle.tile_search.proofs.Steps.{fronts_bounded, next_placed, next_cost, underway_more}
use Rattle.tile_search.proofs.searches.Search.run.Goals as goal

pub next_front-requires : goal.next_front-requires
next_front-requires g c =
    fronts_bounded c.args.board.now.parts c.args.planes.now c.args.net c.args.board.now.kept c.requires.planes c.requires.net c.args.sources.now c.args.targets.now c.loop-e.self c.loop-e.invariant

pub settle-requires-clause-placed : goal.settle-requires-clause-placed
settle-requires-clause-placed g c =
    next_placed c.args.board.now.parts c.args.planes.now c.args.net c.args.board.now.kept c.requires.planes c.requires.net c.args.sources.now c.args.targets.now c.loop-e.self c.loop-e.invariant
    c.next_front.new.queue.pairs c.in-Some.e c.in-Some.ensures.some

pub settle-requires-clause-cost : goal.settle-requires-clause-cost
settle-requires-clause-cost g c =
    next_cost c.args.board.now.parts c.args.planes.now c.args.net c.args.board.now.kept c.requires.planes c.requires.net c.args.sources.now c.args.targets.now c.loop-e.self c.loop-e.invariant
    c.next_front.new.queue.pairs c.in-Some.e c.in-Some.ensures.some

pub loop-e-preserved : goal.loop-e-preserved
loop-e-preserved g c =
    let ground : Ground = ground_of c.args.board.now.parts c.args.planes.now c.args.net in
    underway_more ground c.args.sources.now c.args.targets.now c.loop-e.self c.next_front.new.queue c.settle.new.self c.in-Some.e c.loop-e.invariant c.in-Some.ensures.some c.in_ok-settle.ensures c.in-Some.ensures.pushes

pub returns-clause-right : goal.returns-clause-right
returns-clause-right g c =
    let ground : Ground = ground_of c.args.board.now.parts c.args.planes.now c.args.net in
    is_right ground c.args.sources.now c.args.targets.now c.loop-e.self c.loop-e.invariant c.in_default.ensures.none
