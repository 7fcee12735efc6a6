-- What contracts see of a flat plane.
use Rattle.std.specs.Prelude.{List}
use Rattle.geo_rect.specs.declared.shapes.Rect.{Rect}
use Rattle.plane_core.specs.declared.strips.Strip.{Strip}
use Rattle.plane_core.specs.Labels.{IsPlane, IsSmall}

-- a domain and its strips
pub record Kept : Type 0 where
  pub domain : Rect
  pub strips : List Strip

-- the strips are those of the labels that they give, and coordinates are small
pub record IsKept (domain : Rect) (strips : List Strip) : Type 0 where
  pub canonical : IsPlane domain strips
  pub small : IsSmall domain
