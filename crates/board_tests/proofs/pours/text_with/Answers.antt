use Rattle.std.proofs.Common.{List, sym, subst, ◌∙◌}
use Rattle.board_model.specs.declared.shapes.Shape.{Shape}
use Rattle.plane_set.specs.Standing.{StandsFor}
use Rattle.board_tests.proofs.pours.text_with.Goals as goal

pub text_over-requires-clause-planes : goal.text_over-requires-clause-planes
text_over-requires-clause-planes g c =
    subst (λ (shapes : List Shape). StandsFor c.args.board.now.parts shapes c.args.planes.now) (sym (c.as_slice.ensures ∙ c.in_ok-shapes.ensures)) c.requires.planes
