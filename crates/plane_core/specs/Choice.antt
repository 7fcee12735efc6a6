-- Some of the strips of a list, in its order.
use Rattle.std.specs.Prelude.{List, Contains}
use Rattle.geo_rect.specs.declared.shapes.Point.{Point}
use Rattle.geo_rect.specs.declared.shapes.Rect.{Rect}
use Rattle.geo_rect.specs.Plane.{HasPoint}
use Rattle.plane_core.specs.declared.strips.Strip.{Strip}
use Rattle.plane_core.specs.Strips.{IsInOrder}

-- a and b have a point in common
pub record Meets (a b : Rect) : Type 0 where
  pub at : Point
  pub in_first : HasPoint a at
  pub in_second : HasPoint b at

-- found lists exactly those of the strips that are wanted, in order
pub record IsChoice (strips : List Strip) (IsWanted : Strip → Type 0) (found : List Strip) : Type 0 where
  pub listed : (s : Strip) → Contains found s → Contains strips s
  pub wanted : (s : Strip) → Contains found s → IsWanted s
  pub complete : (s : Strip) → Contains strips s → IsWanted s → Contains found s
  pub in_order : IsInOrder found
