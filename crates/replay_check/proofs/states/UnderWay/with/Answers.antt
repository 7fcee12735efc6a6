use Rattle.std.proofs.Common.{◌≡◌, ◌++◌, List, All, sym, ◌∙◌, subst}
use Rattle.board_model.specs.declared.shapes.Shape.{Shape}
use Rattle.board_model.specs.declared.made.Conn.{Conn}
use Rattle.board_model.specs.Known.{IsKnown}
use Rattle.board_model.specs.Made.{with_conn}
use Rattle.board_model.specs.Shapes.{conn_shapes, state_shapes}
use Rattle.board_model.proofs.MadeShapes.{conn_known}
use Rattle.plane_set.specs.Standing.{StandsFor}
use Rattle.replay_check.specs.States.{IsUnderWay}
use Rattle.replay_check.proofs.Growing.{with_one}
use Rattle.replay_check.proofs.states.UnderWay.with.Goals as goal

pub merge-requires-clause-known : goal.merge-requires-clause-known
merge-requires-clause-known g c =
    let b = c.args.board.now.parts in
    let same : c.as_slice.result.now ≡ conn_shapes b c.args.net c.args.conn.now = c.as_slice.ensures ∙ c.in_ok-shapes.ensures in
    let P : List Shape → Type 0 = λ xs. All (IsKnown b) xs in
    subst P (sym same) (conn_known b c.args.board.now.kept c.args.net c.requires.net c.args.conn.now c.requires.well_formed)

pub returns-clause-state : goal.returns-clause-state
returns-clause-state g c =
    let b = c.args.board.now.parts in
    let lists = c.args.self.made.lists in
    let same : c.as_slice.result.now ≡ conn_shapes b c.args.net c.args.conn.now = c.as_slice.ensures ∙ c.in_ok-shapes.ensures in
    let P : List Shape → Type 0 = λ xs. StandsFor b (state_shapes b lists ++ xs) c.in_ok-planes.planes in
    let stands = subst P same (c.in_ok-planes.ensures.shapes (state_shapes b lists) c.requires.state.planes) in
    let Q : List (List Conn) → Type 0 = λ ls. IsUnderWay b ls c.in_ok-planes.planes in
    let R : Conn → Type 0 = λ x. IsUnderWay b (with_conn lists c.args.net x) c.in_ok-planes.planes in
    subst Q (sym c.in_ok-append.ensures.ok)
    (subst R (sym c.in_ok-copy_conn.ensures) (with_one b lists c.args.self.planes c.requires.state c.args.net c.requires.net c.args.conn.now c.in_ok-planes.planes c.requires.well_formed c.requires.on_board stands))
