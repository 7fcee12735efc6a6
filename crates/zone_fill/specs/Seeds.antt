-- The parts in which a flood begins.
use Rattle.std.specs.Prelude.{ℕ, ◌≡◌, ◌↔◌, Bool, List, length, Some, slice_get}
use Rattle.geo_rect.specs.declared.ids.LayerId.{LayerId}
use Rattle.geo_rect.specs.declared.ids.NetId.{NetId}
use Rattle.geo_rect.specs.declared.shapes.Point.{Point}
use Rattle.geo_rect.specs.declared.shapes.Rect.{Rect}
use Rattle.geo_rect.specs.Plane.{HasPoint}
use Rattle.board_model.specs.declared.shapes.Shape.{Shape}
use Rattle.plane_core.specs.Choice.{Meets}
use Rattle.zone_fill.specs.Flooding.{IsMarked}
use Rattle.zone_fill.specs.Pour.{IsInOwnShape}

-- the shape is the net's, on the layer, and has a point of the part
pub record IsSeedOf (part : Rect) (n : NetId) (l : LayerId) (s : Shape) : Type 0 where
  pub owned : s.owner ≡ Some n
  pub on_layer : s.layer ≡ l
  pub meets : Meets s.area part

-- the part has a point of a shape of the net on the layer
pub record HasSeed (shapes : List Shape) (n : NetId) (l : LayerId) (part : Rect) : Type 0 where
  pub point : Point
  pub in_shape : IsInOwnShape shapes n l point
  pub in_part : HasPoint part point

-- for each part whether it has a point of a shape of the net on the layer
pub record AreSeeds (shapes : List Shape) (n : NetId) (l : LayerId) (parts : List Rect) (seeds : List Bool) : Type 0 where
  pub each : length seeds ≡ length parts
  pub exact : (i : ℕ) (part : Rect) → slice_get parts i ≡ Some part → IsMarked seeds i ↔ HasSeed shapes n l part
