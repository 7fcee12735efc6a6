use Rattle.std.proofs.Common.{◌≡◌, List, ◌∙◌}
use Rattle.std.proofs.lemmas.Result.{IfOk-weaker}
use Rattle.board_model.specs.declared.shapes.Shape.{Shape}
use Rattle.board_model.specs.Shapes.{board_shapes, state_shapes}
use Rattle.board_model.proofs.StateShapes.{only_the_board}
use Rattle.board_tests.proofs.pours.shapes_of.Goals as goal

pub returns : goal.returns
returns c =
    let b = c.args.board.now.parts in
    let lists = c.in_ok-made.made.lists in
    IfOk-weaker c.all_shapes.result (λ (shapes : List Shape). shapes ≡ state_shapes b lists) (λ (shapes : List Shape). shapes ≡ board_shapes b)
    (λ shapes e. e ∙ only_the_board b lists c.in_ok-made.ensures.none_made) c.all_shapes.ensures.shapes
