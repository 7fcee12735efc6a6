use Rattle.std.proofs.Common.{◌∙◌, arith}
use Rattle.route_law.specs.Steps.{nothing_made}
use Rattle.auto_route.proofs.Playing.{order_more, regular_more, routed_more, state_more}
use Rattle.auto_route.proofs.plays.play.Goals as goal

pub loop-net-preserved : goal.loop-net-preserved
loop-net-preserved g c =
    let b = c.args.s.parts in
    let loop = c.loop-net in
    let p = loop.session.parts in
    let mid = loop.session.lists in
    let done = c.in_ok-after in
    let r = done.routed in
    let after = c.push.new.self in
    let pushed = c.in_ok-push.ensures.ok in
    record {
      board = done.ensures.board ∙ loop.invariant.board;
      nets = order_more loop.round after r c.args.order.now loop.net-index _ pushed loop.invariant.nets (omega arith) done.ensures.net;
      routed = routed_more b p (nothing_made b) mid loop.round after r loop.invariant.board pushed loop.invariant.lists loop.invariant.routed done.ensures.routed;
      lists = state_more (nothing_made b) mid done.after.lists loop.round after r pushed loop.invariant.lists done.ensures.lists;
      regular = regular_more b p loop.round after r loop.invariant.board pushed loop.invariant.regular done.ensures.regular;
    }
