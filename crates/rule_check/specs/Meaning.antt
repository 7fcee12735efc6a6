-- What the violations of a list of shapes say, in the words of the board.
use Rattle.std.specs.Prelude.{◌≡◌, ◌≢◌, ℕ, ◌<◌, List, Some, Contains, slice_get}
use Rattle.geo_rect.specs.declared.ids.LayerId.{LayerId}
use Rattle.geo_rect.specs.Plane.{IsTooClose}
use Rattle.board_parts.specs.declared.parts.BoardParts.{BoardParts}
use Rattle.board_model.specs.declared.shapes.Owned.{Owned}
use Rattle.board_model.specs.declared.shapes.Shape.{Shape}
use Rattle.board_parts.specs.Rules.{IsOnBoard}
use Rattle.board_parts.specs.Gaps.{gap_between}

-- the shape on a layer that a violation names
abbrev pub shape_on : LayerId → Owned → Shape
shape_on l x = record { area = x.area; layer = l; owner = x.owner }

-- x and a later y stand on the layer, belong to two owners, and are too close for the gap of these
pub record IsClosePair (b : BoardParts) (shapes : List Shape) (l : LayerId) (x y : Owned) : Type 0 where
  pub first : ℕ
  pub second : ℕ
  pub order : first < second
  pub first_is : slice_get shapes first ≡ Some (shape_on l x)
  pub second_is : slice_get shapes second ≡ Some (shape_on l y)
  pub owners : x.owner ≢ y.owner
  pub close : IsTooClose x.area y.area (gap_between b l x.owner y.owner)

-- x stands on the layer, and some point of it is none of the board
pub record IsOutside (b : BoardParts) (shapes : List Shape) (l : LayerId) (x : Owned) : Type 0 where
  pub there : Contains shapes (shape_on l x)
  pub outside : IsOnBoard b.width b.height x.area → ⊥
