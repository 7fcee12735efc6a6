-- The four sides of a rectangle, as one: the plane is turned until the side is the left one.
use Rattle.std.specs.Prelude.{ℤ, pos, ◌-ℤ◌, ◌≤ℤ◌, ◌≡◌}
use Rattle.std.proofs.Common.{arith}
use Rattle.std.proofs.lemmas.Int.{ints}
use Rattle.geo_rect.specs.declared.shapes.Interval.{Interval}
use Rattle.geo_rect.specs.declared.shapes.Point.{Point}
use Rattle.geo_rect.specs.declared.shapes.Rect.{Rect}
use Rattle.geo_rect.specs.Axis.{HasNumber}
use Rattle.geo_rect.specs.Plane.{columns, rows, rect_of, HasPoint}
use Rattle.plane_core.specs.declared.sides.Side.{Side}
use Rattle.plane_core.specs.declared.sides.Side.TheVariants.{Left, Below, Right, Above}

pub mirrored-ordered : (a b : ℤ) → a ≤ℤ b → (pos 0 -ℤ b) ≤ℤ (pos 0 -ℤ a)
mirrored-ordered a b h = omega (arith, ints)

-- the numbers of the interval with their signs turned
abbrev pub mirrored : Interval → Interval
mirrored i = record { low = pos 0 -ℤ i.high; high = pos 0 -ℤ i.low; ordered = mirrored-ordered i.low i.high i.ordered }

-- where a point comes to lie when the side is turned to the left
abbrev pub turned_point : Side → Point → Point
turned_point Left p = p
turned_point Below p = record { x = p.y; y = p.x }
turned_point Right p = record { x = pos 0 -ℤ p.x; y = pos 0 -ℤ p.y }
turned_point Above p = record { x = pos 0 -ℤ p.y; y = pos 0 -ℤ p.x }

-- where a rectangle comes to lie when the side is turned to the left
abbrev pub turned : Side → Rect → Rect
turned Left r = r
turned Below r = rect_of (rows r) (columns r)
turned Right r = rect_of (mirrored (columns r)) (mirrored (rows r))
turned Above r = rect_of (mirrored (rows r)) (mirrored (columns r))

-- some number is in both
pub record HaveCommon (i j : Interval) : Type 0 where
  pub number : ℤ
  pub in_first : HasNumber i number
  pub in_second : HasNumber j number

-- s has a point one step to the left of a row of t
pub record IsLeftOf (s t : Rect) : Type 0 where
  pub at : Point
  pub past_edge : at.x ≡ t.x0 -ℤ pos 1
  pub in_row : HasNumber (rows t) at.y
  pub in_first : HasPoint s at

-- s has a point one step past the edge of t on this side
abbrev pub IsBeside : Side → Rect → Rect → Type 0
IsBeside side t s = IsLeftOf (turned side s) (turned side t)
