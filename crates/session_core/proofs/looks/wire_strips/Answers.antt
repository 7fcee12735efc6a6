use Rattle.std.proofs.Common.{◌≡◌, List}
use Rattle.std.proofs.lemmas.Result.{IfOk-weaker}
use Rattle.board_model.specs.declared.made.Conn.{Conn}
use Rattle.board_model.specs.Shapes.{state_shapes}
use Rattle.plane_core.specs.declared.strips.Strip.{Strip}
use Rattle.plane_set.specs.Drawings.{drawing_by}
use Rattle.plane_set.specs.Standing.{StandsFor}
use Rattle.route_law.specs.Steps.{AreWireStrips}
use Rattle.session_core.proofs.Listing.{shown_strips}
use Rattle.session_core.proofs.looks.wire_strips.Goals as goal

pub returns : goal.returns
returns g c =
    let b = c.args.board.now.parts in
    let d = drawing_by g.P.Plane.region g.P.Plane.strips c.wire.result.now in
    IfOk-weaker c.strips_of.result (λ (strips : List Strip). strips ≡ d.strips)
    (λ (strips : List Strip). (lists : List (List Conn)) → StandsFor b (state_shapes b lists) c.args.planes.now → AreWireStrips b lists c.args.l c.args.c strips)
    (λ strips e lists h. shown_strips b lists c.args.l c.args.c d strips c.args.board.now.kept e (c.wire.ensures.shows b (state_shapes b lists) h))
    c.strips_of.ensures
