use Rattle.std.proofs.Common.{◌≡◌, ℕ, ◌+◌, List, length, sym, ◌∙◌, ap, subst, arith}
use Rattle.route_law.specs.declared.replies.Routed.{Routed}
use Rattle.route_law.specs.Routing.{AreRoutedFrom, net_at}
use Rattle.route_law.proofs.Running.{routed-next}
use Rattle.session_core.proofs.Listing.{length_pushed}
use Rattle.session_core.proofs.routes.route_all.Goals as goal

pub loop-number-preserved : goal.loop-number-preserved
loop-number-preserved g c =
    let b = c.args.board.now.parts in
    let old = c.args.made.now.lists in
    let loop = c.loop-number in
    let done = c.in_ok-after in
    let new = c.route_net.new.made.lists in
    let pushed = c.in_ok-push.ensures.ok in
    let place : loop.number ≡ 0 + length loop.nets = (let count = loop.invariant.count in omega arith) in
    let net = done.ensures.net ∙ ap net_at place in
    let more = routed-next b 0 old loop.made.lists new loop.nets done.field-0.routed loop.invariant.routed net done.ensures.routed in
    record {
      routed = subst (λ (rs : List Routed). AreRoutedFrom b 0 old rs new) (sym pushed) more;
      sitting = done.ensures.sitting;
      count = length_pushed loop.nets _ _ pushed ∙ ap (λ (n : ℕ). n + 1) loop.invariant.count;
    }
