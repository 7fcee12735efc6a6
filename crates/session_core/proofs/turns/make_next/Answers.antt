use Rattle.std.proofs.Common.{subst}
use Rattle.session_core.specs.Attempts.{IsAttempt}
use Rattle.session_core.proofs.Turning.{next_walk}
use Rattle.session_core.proofs.turns.make_next.Goals as goal

pub keep-requires-clause-next : goal.keep-requires-clause-next
keep-requires-clause-next g c =
    let b = c.args.board.now.parts in
    let lists = c.args.made.now.lists in
    next_walk b lists c.args.net c.args.number c.in-Joined.next c.requires.number c.requires.pin
    (subst (IsAttempt b lists c.args.net) c.in-Joined.is (c.in_ok-next.ensures {u = tt}))
