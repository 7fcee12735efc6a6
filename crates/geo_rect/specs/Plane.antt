-- Rectangles in the plane, as what they are on each axis.
use Rattle.std.specs.Prelude.{ℤ, pos}
use Rattle.geo_rect.specs.declared.shapes.Interval.{Interval}
use Rattle.geo_rect.specs.declared.shapes.Point.{Point}
use Rattle.geo_rect.specs.declared.shapes.Rect.{Rect}
use Rattle.geo_rect.specs.Axis.{HasNumber, IsNear, IsSmall, around}
use Rattle.geo_rect.specs.Axis as axis

-- the columns of a rectangle
abbrev pub columns : Rect → Interval
columns r = record { low = r.x0; high = r.x1; ordered = r.x_ordered }

-- the rows of a rectangle
abbrev pub rows : Rect → Interval
rows r = record { low = r.y0; high = r.y1; ordered = r.y_ordered }

-- the rectangle of these columns and rows
abbrev pub rect_of : Interval → Interval → Rect
rect_of c r = record { x0 = c.low; y0 = r.low; x1 = c.high; y1 = r.high; x_ordered = c.ordered; y_ordered = r.ordered }

-- the square of half width h round p, for an h that is not negative
abbrev pub square : Point → ℤ → Rect
square p h = rect_of (around p.x h) (around p.y h)

-- p is one of the whole points of r
pub record HasPoint (r : Rect) (p : Point) : Type 0 where
  pub across : HasNumber (columns r) p.x
  pub up : HasNumber (rows r) p.y

-- each point of a is one of b
pub record LiesIn (a b : Rect) : Type 0 where
  pub across : axis.LiesWithin (columns a) (columns b)
  pub up : axis.LiesWithin (rows a) (rows b)

-- the separations of a and b, across and up, are both less than s
pub record IsTooClose (a b : Rect) (s : ℤ) : Type 0 where
  pub across : IsNear (columns a) (columns b) s
  pub up : IsNear (rows a) (rows b) s

-- all coordinates of r lie between -2^25 and 2^25
pub record IsBounded (r : Rect) : Type 0 where
  pub across : IsSmall (columns r)
  pub up : IsSmall (rows r)

-- r has exactly the points that a and b share
pub record IsMeet (a b r : Rect) : Type 0 where
  pub first : (p : Point) → HasPoint r p → HasPoint a p
  pub second : (p : Point) → HasPoint r p → HasPoint b p
  pub all : (p : Point) → HasPoint a p → HasPoint b p → HasPoint r p

-- a and b share no point
abbrev pub ShareNoPoint : Rect → Rect → Type 0
ShareNoPoint a b = (p : Point) → HasPoint a p → HasPoint b p → ⊥

-- the one point p as a rectangle
abbrev pub lone : Point → Rect
lone p = square p (pos 0)

-- r has exactly the points that by themselves are too close to b for the gap g
pub record IsGrown (b : Rect) (g : ℤ) (r : Rect) : Type 0 where
  pub close : (p : Point) → HasPoint r p → IsTooClose (lone p) b g
  pub all : (p : Point) → IsTooClose (lone p) b g → HasPoint r p
