use Rattle.std.proofs.Common.{List, ◌++◌, All, sym, ◌∙◌, ap, subst}
use Rattle.board_model.specs.declared.made.Conn.{Conn}
use Rattle.board_model.specs.declared.shapes.Shape.{Shape}
use Rattle.board_model.specs.Known.{IsKnown}
use Rattle.board_model.specs.Made.{with_conn}
use Rattle.board_model.specs.Shapes.{state_shapes}
use Rattle.board_model.proofs.MadeShapes.{conn_known}
use Rattle.plane_set.specs.Standing.{StandsFor}
use Rattle.session_core.specs.Sessions.{IsSitting}
use Rattle.session_core.proofs.Turning.{sitting_next}
use Rattle.session_core.proofs.turns.keep.Goals as goal

pub merge-requires-clause-known : goal.merge-requires-clause-known
merge-requires-clause-known g c =
    let b = c.args.board.now.parts in
    let conn = c.args.conn.now in
    subst (λ (shapes : List Shape). All (IsKnown b) shapes) (sym (c.as_slice.ensures ∙ c.in_ok-shapes.ensures))
    (conn_known b c.requires.sitting.board c.args.net c.requires.net conn c.requires.next.connection.well_formed)

pub returns-clause-sitting : goal.returns-clause-sitting
returns-clause-sitting g c =
    let b = c.args.board.now.parts in
    let lists = c.args.made.now.lists in
    let n = c.args.net in
    let after = c.in_ok-planes.planes in
    let e = c.in_ok-append.ensures.ok ∙ ap (λ (conn : Conn). with_conn lists n conn) c.in_ok-copy_of.ensures in
    let stands = c.in_ok-planes.ensures.shapes (state_shapes b lists) c.requires.sitting.stands in
    subst (λ (ls : List (List Conn)). IsSitting b ls after) (sym e)
    (sitting_next b lists n c.args.planes c.requires.sitting c.requires.net c.args.conn.now after c.requires.next
    (subst (λ (shapes : List Shape). StandsFor b (state_shapes b lists ++ shapes) after) (c.as_slice.ensures ∙ c.in_ok-shapes.ensures) stands))
