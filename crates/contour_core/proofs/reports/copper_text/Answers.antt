use Rattle.std.proofs.Common.{◌∙◌, List, All, subst, sym}
use Rattle.board_model.specs.declared.shapes.Shape.{Shape}
use Rattle.gerber_out.specs.Layers.{IsWritable}
use Rattle.contour_core.proofs.Writable.{all-writable}
use Rattle.contour_core.proofs.reports.copper_text.Goals as goal

pub layer_text-requires-clause-shapes : goal.layer_text-requires-clause-shapes
layer_text-requires-clause-shapes c =
    let P : List Shape → Type 0 = λ ss. All (IsWritable c.args.layer) ss in
    subst P (sym (c.as_slice.ensures ∙ c.in_ok-shapes.ensures.shapes)) (all-writable c.args.board.now.parts c.args.made.now.lists c.args.layer c.args.board.now.kept c.requires.state)
