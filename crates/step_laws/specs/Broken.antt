-- Which shapes a violation names.
use Rattle.std.specs.Prelude.{◌≡◌, ◌⊎◌}
use Rattle.board_model.specs.declared.shapes.Shape.{Shape}
use Rattle.board_model.specs.declared.shapes.Violation.{Violation}
use Rattle.board_model.specs.declared.shapes.Violation.TheVariants.{Close, Outline}
use Rattle.rule_check.specs.Meaning.{shape_on}

-- the violation names the shape: its layer, its owner and its area
abbrev pub IsNamed : Violation → Shape → Type 0
IsNamed (Close l x y) s = (s ≡ shape_on l x) ⊎ (s ≡ shape_on l y)
IsNamed (Outline l x) s = s ≡ shape_on l x
