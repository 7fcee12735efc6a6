use Rattle.replay_check.proofs.Next.{next_on_board}
use Rattle.replay_check.proofs.routes.make_one.Goals as goal

pub with-requires-clause-on_board : goal.with-requires-clause-on_board
with-requires-clause-on_board g c =
    next_on_board c.args.board.now.parts c.args.board.now.kept c.args.state.made.lists c.args.state.planes c.requires.state c.args.net c.requires.net c.args.m.now (c.in_ok-is_next.ensures.0 c.if-not-branch.false)

pub returns-clause-next : goal.returns-clause-next
returns-clause-next g c = c.in_ok-is_next.ensures.0 c.if-not-branch.false
