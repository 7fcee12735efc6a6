use Rattle.std.proofs.Common.{refl, subst}
use Rattle.session_core.specs.Adopting.{IsVerdict}
use Rattle.session_core.proofs.adopts.take_conn.Goals as goal

pub returns-in-Some-clause-taken : goal.returns-in-Some-clause-taken
returns-in-Some-clause-taken g c =
    (subst (IsVerdict c.args.board.now.parts c.args.made.now.lists c.args.net c.args.conn.now) c.in-Some.is (c.in_ok-corner.ensures {u = tt}), refl)
