use Rattle.std.proofs.Common.{List, sym, subst}
use Rattle.std.specs.List.{AllByRecursion}
use Rattle.std.proofs.lemmas.List.Elements.{All-from_recursion}
use Rattle.board_model.specs.declared.shapes.Shape.{Shape}
use Rattle.gerber_out.specs.Layers.{IsWritable}
use Rattle.board_tests.proofs.layers.writes_the_pins.Goals as goal

pub layer_text-requires-clause-shapes : goal.layer_text-requires-clause-shapes
layer_text-requires-clause-shapes c =
    All-from_recursion (IsWritable (record { 0 = 0 })) c.as_slice.result.now
    (subst (λ (shapes : List Shape). AllByRecursion (IsWritable (record { 0 = 0 })) shapes) (sym c.as_slice.ensures) c.shapes.ensures)
