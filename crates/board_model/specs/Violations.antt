-- The violations among shapes, in their order.
use Rattle.std.specs.Prelude.{List, [], ◌∷◌, ◌++◌, map, filter, if◌then◌else◌}
use Rattle.board_parts.specs.declared.parts.BoardParts.{BoardParts}
use Rattle.board_model.specs.declared.shapes.Owned.{Owned}
use Rattle.board_model.specs.declared.shapes.Shape.{Shape}
use Rattle.board_model.specs.declared.shapes.Violation.{Violation}
use Rattle.board_model.specs.declared.shapes.Violation.TheVariants.{Close, Outline}
use Rattle.board_model.specs.Spacing.{keeps_outline, breaks_gap}

-- a shape as a violation names it
abbrev pub owned : Shape → Owned
owned s = record { owner = s.owner; area = s.area }

-- the shape leaves the board
abbrev pub outline_of : BoardParts → Shape → List Violation
outline_of b s = if keeps_outline b s.area then [] else Outline s.layer (owned s) ∷ []

-- the violation of two shapes that are too close
abbrev pub close_pair : Shape → Shape → Violation
close_pair s t = Close s.layer (owned s) (owned t)

-- the shape with each later one that it is too close to
abbrev pub close_of : BoardParts → Shape → List Shape → List Violation
close_of b s later = map (close_pair s) (filter (breaks_gap b s) later)

-- for each shape in order first its outline, then each later shape that it is too close to
abbrev pub violations_of : BoardParts → List Shape → List Violation
violations_of b [] = []
violations_of b (s ∷ later) = (outline_of b s ++ close_of b s later) ++ violations_of b later
