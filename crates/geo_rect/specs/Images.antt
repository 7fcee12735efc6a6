-- Clamping in the plane: each coordinate by itself.
use Rattle.geo_rect.specs.declared.shapes.Point.{Point}
use Rattle.geo_rect.specs.declared.shapes.Rect.{Rect}
use Rattle.geo_rect.specs.Line as line
use Rattle.geo_rect.specs.Plane.{HasPoint, columns, rows}

-- q is the image of p under clamping into e: each coordinate of q is the image of that of p
pub record IsImage (e : Rect) (p q : Point) : Type 0 where
  pub across : line.IsImage (columns e) p.x q.x
  pub up : line.IsImage (rows e) p.y q.y

-- c has exactly the images in e of the points of b
pub record IsClamped (b e c : Rect) : Type 0 where
  pub each : (p q : Point) → HasPoint b p → IsImage e p q → HasPoint c q
  pub only : (q : Point) → HasPoint c q → (p : Point) × HasPoint b p × IsImage e p q
