-- Facts on rectangles, from their parts on each axis.
use Rattle.geo_rect.specs.declared.shapes.Point.{Point}
use Rattle.geo_rect.specs.declared.shapes.Rect.{Rect}
use Rattle.geo_rect.specs.Axis.{HasNumber}
use Rattle.geo_rect.specs.Plane.{columns, rows, HasPoint}
use Rattle.plane_core.specs.Sides.{HaveCommon}
use Rattle.flat_plane.specs.Draft.{IsAffected, Touch}

pub point_from_parts : (r : Rect) (p : Point) → HasNumber (columns r) p.x → HasNumber (rows r) p.y → HasPoint r p
point_from_parts r p a u = record { across = a; up = u }

pub affected_from_parts : (area s : Rect) → Touch (columns area) (columns s) → HaveCommon (rows area) (rows s) → IsAffected area s
affected_from_parts area s t u = record { across = t; up = u }
