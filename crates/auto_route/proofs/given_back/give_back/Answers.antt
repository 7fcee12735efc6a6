use Rattle.std.proofs.Common.{◌∙◌, arith}
use Rattle.route_law.specs.Steps.{nothing_made}
use Rattle.auto_route.proofs.Playing.{routed_here, state_at}
use Rattle.auto_route.proofs.given_back.give_back.Goals as goal

pub give_net-requires : goal.give_net-requires
give_net-requires g c =
    let b = c.args.s.parts in
    let loop = c.loop-routed in
    record { routed = routed_here b loop.session.parts (nothing_made b) loop.session.lists c.args.round.now loop.routed-index c.routed-item.result loop.invariant.board loop.invariant.lists (omega arith) c.routed-item.is c.requires.routed }

pub loop-routed-preserved : goal.loop-routed-preserved
loop-routed-preserved g c =
    let b = c.args.s.parts in
    let loop = c.loop-routed in
    let done = c.in_ok-session-2 in
    record {
      board = done.ensures.board ∙ loop.invariant.board;
      lists = state_at (nothing_made b) c.args.round.now loop.routed-index c.routed-item.result loop.session.lists done.session.lists (omega arith) c.routed-item.is loop.invariant.lists done.ensures.lists;
    }
