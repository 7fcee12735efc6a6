use Rattle.std.proofs.Common.{◌≡◌, List, IfOk, ◌∙◌, subst}
use Rattle.board_model.specs.declared.shapes.Shape.{Shape}
use Rattle.board_model.specs.Shapes.{board_shapes}
use Rattle.board_model.proofs.StateShapes.{only_the_board}
use Rattle.plane_set.specs.Standing.{StandsFor}
use Rattle.plane_set.proofs.sets.PlaneSet.build.Goals as goal

pub returns : goal.returns
returns g c =
    let b = c.args.board.now.parts in
    let shown : c.as_slice.result.now ≡ board_shapes b = c.as_slice.ensures ∙ c.in_ok-shapes.ensures.shapes ∙ only_the_board b c.in_ok-made.made.lists c.in_ok-made.ensures.none_made in
    subst (λ (ss : List Shape). IfOk c.of.result (λ set. StandsFor b ss set)) shown c.of.ensures
