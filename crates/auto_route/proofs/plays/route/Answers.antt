use Rattle.auto_route.proofs.Playing.{routed_is, routed_so, step_routed}
use Rattle.auto_route.proofs.plays.route.Goals as goal

pub returns-clause-routed : goal.returns-clause-routed
returns-clause-routed g c =
    let b = c.args.s.parts in
    let old = c.args.s.lists in
    let new = c.in_ok-session.session.lists in
    let r = c.routed_of.result in
    routed_so b old r new (step_routed b old c.args.net c.in_ok-session.reply new r c.routed_of.ensures c.in_ok-session.ensures.step)

pub returns-clause-lists : goal.returns-clause-lists
returns-clause-lists g c =
    let b = c.args.s.parts in
    let old = c.args.s.lists in
    let new = c.in_ok-session.session.lists in
    let r = c.routed_of.result in
    routed_is b old r new (step_routed b old c.args.net c.in_ok-session.reply new r c.routed_of.ensures c.in_ok-session.ensures.step)
