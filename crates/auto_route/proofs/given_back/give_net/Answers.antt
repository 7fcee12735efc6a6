use Rattle.std.proofs.Common.{List, ◌∙◌, ap}
use Rattle.route_law.specs.declared.replies.Made1.{Made1}
use Rattle.auto_route.specs.States.{after_net}
use Rattle.auto_route.proofs.Refusing.{conns_in, given_kept, given_refused}
use Rattle.auto_route.proofs.given_back.give_net.Goals as goal

pub returns-clause-lists : goal.returns-clause-lists
returns-clause-lists g c =
    let b = c.args.s.parts in
    let old = c.args.s.lists in
    let r = c.args.routed.now in
    let conns = c.as_slice-2.ensures ∙ c.in_ok-conns.ensures ∙ ap (λ (ms : List Made1). conns_in ms) c.as_slice.ensures in
    given_kept b old r (after_net old r) c.made-made.ensures.state c.requires.routed c.as_slice-2.result.now c.in_ok-session.adopted c.in_ok-session.session.lists conns c.in_ok-session.ensures.adopted c.in-Kept.is

pub unreachable-requires : goal.unreachable-requires
unreachable-requires g c =
    let b = c.args.s.parts in
    let old = c.args.s.lists in
    let r = c.args.routed.now in
    let conns = c.as_slice-2.ensures ∙ c.in_ok-conns.ensures ∙ ap (λ (ms : List Made1). conns_in ms) c.as_slice.ensures in
    given_refused b old r (after_net old r) c.made-made.ensures.state c.requires.routed c.as_slice-2.result.now c.in_ok-session.adopted c.in_ok-session.session.lists c.in-Refused.conn c.in-Refused.corner conns c.in_ok-session.ensures.adopted c.in-Refused.is
