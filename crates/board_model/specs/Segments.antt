-- The rectangle of a wire from one point to another.
use Rattle.std.specs.Prelude.{ℤ, pos, ◌+ℤ◌, ◌-ℤ◌, ◌≤ℤ◌, unsigned_abs}
use Rattle.std.specs.Int.{int_min, int_max}
use Rattle.std.proofs.Common.{arith}
use Rattle.std.proofs.lemmas.Int.{ints, clamps}
use Rattle.geo_rect.specs.declared.shapes.Interval.{Interval}
use Rattle.geo_rect.specs.declared.shapes.Point.{Point}
use Rattle.geo_rect.specs.declared.shapes.Rect.{Rect}
use Rattle.geo_rect.specs.Plane.{rect_of}

-- a wire's ends are in order
pub stretch-ordered : (u v h : ℤ) → (int_min u v -ℤ pos (unsigned_abs h)) ≤ℤ (int_max u v +ℤ pos (unsigned_abs h))
stretch-ordered u v h = omega (arith, ints, clamps)

-- from h before the lower of two numbers to h after the higher, for an h that is not negative
abbrev pub stretch : ℤ → ℤ → ℤ → Interval
stretch u v h =
    record { low = int_min u v -ℤ pos (unsigned_abs h); high = int_max u v +ℤ pos (unsigned_abs h); ordered = stretch-ordered u v h }

-- the rectangle of a wire of half width h in a line from p to q
abbrev pub segment : Point → Point → ℤ → Rect
segment p q h = rect_of (stretch p.x q.x h) (stretch p.y q.y h)
