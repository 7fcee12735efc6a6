-- Which of the open parts a pour has.
use Rattle.std.specs.Prelude.{◌≡◌, Bool, List}
use Rattle.geo_rect.specs.declared.ids.LayerId.{LayerId}
use Rattle.geo_rect.specs.declared.ids.NetId.{NetId}
use Rattle.geo_rect.specs.declared.shapes.Rect.{Rect}
use Rattle.board_model.specs.declared.shapes.Shape.{Shape}
use Rattle.zone_fill.specs.Flooding.{AreAllFlooded}
use Rattle.zone_fill.specs.Marks.{marked}
use Rattle.zone_fill.specs.Seeds.{AreSeeds}

-- the boxes are the parts that are flooded from those with a point of a shape of the net on the layer
pub record AreFloodedParts (shapes : List Shape) (n : NetId) (l : LayerId) (parts boxes : List Rect) : Type 0 where
  pub seeds : List Bool
  pub are_seeds : AreSeeds shapes n l parts seeds
  pub marks : List Bool
  pub flooded : AreAllFlooded parts seeds marks
  pub is : boxes ≡ marked marks parts
