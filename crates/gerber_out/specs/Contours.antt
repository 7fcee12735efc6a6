-- The contour of a rectangle: its corners, in units of which 1,000 are a micrometre.
use Rattle.std.specs.Prelude.{◌≡◌, ℕ, ◌*◌, ◌≤◌, ℤ, pos, negsuc, ◌≤ℤ◌, ◌<ℤ◌, List, [], ◌∷◌}
use Rattle.geo_rect.specs.declared.shapes.Interval.{Interval}
use Rattle.geo_rect.specs.declared.shapes.Rect.{Rect}
use Rattle.geo_rect.specs.Plane.{columns, rows}
use Rattle.gerber_out.specs.declared.contours.Corner.{Corner}
use Rattle.gerber_out.specs.declared.contours.TheConstants.{MOST_UNITS}

-- a number of micrometres that is not negative, in units
abbrev pub units : ℤ → ℕ
units (pos n) = 1000 * n
units (negsuc n) = 0

abbrev pub corner_at : ℤ → ℤ → Corner
corner_at x y = record { x = units x; y = units y }

-- the corners of a rectangle, one after the other, up to the first one again
abbrev pub contour : Rect → List Corner
contour r = corner_at r.x0 r.y0 ∷ corner_at r.x1 r.y0 ∷ corner_at r.x1 r.y1 ∷ corner_at r.x0 r.y1 ∷ corner_at r.x0 r.y0 ∷ []

-- both coordinates can stand in a text
pub record IsInUnits (c : Corner) : Type 0 where
  pub across : c.x ≤ MOST_UNITS
  pub up : c.y ≤ MOST_UNITS

-- more than one number, and all of them from 0 to 9,999,999
pub record IsSpan (i : Interval) : Type 0 where
  pub from : pos 0 ≤ℤ i.low
  pub long : i.low <ℤ i.high
  pub to : i.high ≤ℤ pos 9999999

-- a rectangle with area, with coordinates from 0 to 9,999,999
pub record IsFillable (r : Rect) : Type 0 where
  pub across : IsSpan (columns r)
  pub up : IsSpan (rows r)

-- the numbers are those of the ends of the interval, in units
pub record HasEnds (i : Interval) (a b : ℕ) : Type 0 where
  pub span : IsSpan i
  pub first : units i.low ≡ a
  pub last : units i.high ≡ b

-- the points are the contour of the rectangle
pub record IsContourOf (points : List Corner) (r : Rect) : Type 0 where
  pub fillable : IsFillable r
  pub same : contour r ≡ points
