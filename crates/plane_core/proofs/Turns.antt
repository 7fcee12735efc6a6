-- A point lies in a rectangle exactly when the turned point lies in the turned rectangle.
use Rattle.std.proofs.Common.{ℤ, pos, ◌-ℤ◌, ◌↔◌, arith}
use Rattle.std.proofs.lemmas.Int.{ints}
use Rattle.geo_rect.specs.declared.shapes.Interval.{Interval}
use Rattle.geo_rect.specs.declared.shapes.Point.{Point}
use Rattle.geo_rect.specs.declared.shapes.Rect.{Rect}
use Rattle.geo_rect.specs.Axis.{HasNumber}
use Rattle.geo_rect.specs.Plane.{columns, rows, HasPoint}
use Rattle.plane_core.specs.declared.sides.Side.{Side}
use Rattle.plane_core.specs.declared.sides.Side.TheVariants.{Left, Below, Right, Above}
use Rattle.plane_core.specs.Sides.{mirrored, turned, turned_point}

pub mirrored_has : (i : Interval) (v : ℤ) → HasNumber i v → HasNumber (mirrored i) (pos 0 -ℤ v)
mirrored_has i v h = let p = h.from in let q = h.to in record { from = omega (arith, ints); to = omega (arith, ints) }

pub has_mirrored : (i : Interval) (v : ℤ) → HasNumber (mirrored i) (pos 0 -ℤ v) → HasNumber i v
has_mirrored i v h = let p = h.from in let q = h.to in record { from = omega (arith, ints); to = omega (arith, ints) }

pub points_turn : (side : Side) (r : Rect) (p : Point) → HasPoint r p ↔ HasPoint (turned side r) (turned_point side p)
points_turn Left r p = (λ h. h, λ h. h)
points_turn Below r p = (λ h. record { across = h.up; up = h.across }, λ h. record { across = h.up; up = h.across })
points_turn Right r p = (
  λ h. record { across = mirrored_has (columns r) p.x h.across; up = mirrored_has (rows r) p.y h.up },
  λ h. record { across = has_mirrored (columns r) p.x h.across; up = has_mirrored (rows r) p.y h.up },
)
points_turn Above r p = (
  λ h. record { across = mirrored_has (rows r) p.y h.up; up = mirrored_has (columns r) p.x h.across },
  λ h. record { across = has_mirrored (columns r) p.x h.up; up = has_mirrored (rows r) p.y h.across },
)
