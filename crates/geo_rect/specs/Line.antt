-- Distances on one axis: numbers, and what of an interval is nearest or farthest.
use Rattle.std.specs.Prelude.{ℕ, ℤ, ◌≡◌, ◌≤◌, ◌-ℤ◌, unsigned_abs}
use Rattle.geo_rect.specs.declared.shapes.Interval.{Interval}
use Rattle.geo_rect.specs.Axis.{HasNumber}

-- how far x is from y
abbrev pub between : ℤ → ℤ → ℕ
between x y = unsigned_abs (x -ℤ y)

-- n is the least distance from a number of i to a number of j
pub record IsGapBetween (i j : Interval) (n : ℕ) : Type 0 where
  pub reached : (x : ℤ) × (y : ℤ) × HasNumber i x × HasNumber j y × (between x y ≡ n)
  pub least : (x y : ℤ) → HasNumber i x → HasNumber j y → n ≤ between x y

-- some number of j is n away from all of i, and none is farther from i
pub record IsFarthest (i j : Interval) (n : ℕ) : Type 0 where
  pub reached : (y : ℤ) × HasNumber j y × ((x : ℤ) → HasNumber i x → n ≤ between x y)
  pub within : (y : ℤ) → HasNumber j y → (x : ℤ) × HasNumber i x × (between x y ≤ n)

-- w is the image of v under clamping into e: the number of e that is nearest to v
pub record IsImage (e : Interval) (v w : ℤ) : Type 0 where
  pub inside : HasNumber e w
  pub nearest : (u : ℤ) → HasNumber e u → between w v ≤ between u v

-- r has exactly the images in e of the numbers of i
pub record HasImages (i e r : Interval) : Type 0 where
  pub each : (v w : ℤ) → HasNumber i v → IsImage e v w → HasNumber r w
  pub only : (w : ℤ) → HasNumber r w → (v : ℤ) × HasNumber i v × IsImage e v w
