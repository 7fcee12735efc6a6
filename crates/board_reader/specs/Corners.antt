-- The interval between two numbers.
use Rattle.std.proofs.Common.{ℕ, pos, min, max, ◌≤ℤ◌, arith}
use Rattle.std.proofs.lemmas.Int.{ints}
use Rattle.geo_rect.specs.declared.shapes.Interval.{Interval}

pub span-ordered : (a b : ℕ) → pos (min a b) ≤ℤ pos (max a b)
span-ordered a b = omega (arith, ints)

-- the numbers from the one to the other, in either order
abbrev pub span : ℕ → ℕ → Interval
span a b = record { low = pos (min a b); high = pos (max a b); ordered = span-ordered a b }
