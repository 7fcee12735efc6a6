use Rattle.auto_route.proofs.Ripping.{step_rips}
use Rattle.auto_route.proofs.rips.rip.Goals as goal

pub returns-clause-lists : goal.returns-clause-lists
returns-clause-lists g c = step_rips c.args.s.parts c.args.s.lists c.args.net c.in_ok-session.field-0-1 c.in_ok-session.session.lists c.in_ok-session.ensures.step
