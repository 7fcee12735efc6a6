use Rattle.std.proofs.Common.{List, Option, subst}
use Rattle.std.proofs.lemmas.Result.{IfOk-weaker}
use Rattle.board_model.specs.declared.made.Conn.{Conn}
use Rattle.board_model.specs.Shapes.{board_shapes}
use Rattle.plane_set.specs.Standing.{PlaneTable, StandsFor}
use Rattle.session_core.specs.Sessions.{IsSession, IsSitting}
use Rattle.session_core.proofs.Turning.{sitting_built}
use Rattle.session_core.proofs.planes.ready.Goals as goal

pub returns-in-None : goal.returns-in-None
returns-in-None g c =
    let b = c.args.board.now.parts in
    IfOk-weaker c.build.result (StandsFor b (board_shapes b)) (λ (set : PlaneTable). (lists : List (List Conn)) → IsSession b lists c.args.planes → IsSitting b lists set)
    (λ set stands lists h. sitting_built b lists set stands (subst (λ (held : Option PlaneTable). IsSession b lists held) c.in-None.is h))
    c.build.ensures
