use Rattle.session_core.proofs.Turning.{session_nothing}
use Rattle.session_core.proofs.sessions.Session.start.Goals as goal

pub invariant_of-result : goal.invariant_of-result
invariant_of-result g c = session_nothing c.args.board.parts c.in_ok-made.made.lists c.args.board.kept c.in_ok-made.ensures.lists
