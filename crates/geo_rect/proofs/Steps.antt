-- One axis: how far numbers are apart, and the three places that a number has to an interval.
use Rattle.std.proofs.Common.{ℤ, ◌≡◌, ◌+◌, ◌≤◌, ◌≤ℤ◌, ◌<ℤ◌, refl, arith}
use Rattle.std.proofs.lemmas.Int.{ints, by_lt_z}
use Rattle.geo_rect.specs.declared.shapes.Interval.{Interval}
use Rattle.geo_rect.specs.Axis.{HasNumber}
use Rattle.geo_rect.specs.Line.{between, IsImage}

pub between-self : (x : ℤ) → between x x ≡ 0
between-self x = omega (arith, ints)

pub between-sym : (x y : ℤ) → between x y ≡ between y x
between-sym x y = omega (arith, ints)

pub between-triangle : (x y z : ℤ) → between x z ≤ between x y + between y z
between-triangle x y z = omega (arith, ints)

pub between-zero : (x y : ℤ) → between x y ≡ 0 → x ≡ y
between-zero x y e = omega (arith, ints)

-- w is where clamping into e brings v
pub data Place (e : Interval) (v w : ℤ) : Type 0 where
  before : v <ℤ e.low → w ≡ e.low → Place e v w
  inside : e.low ≤ℤ v → v ≤ℤ e.high → w ≡ v → Place e v w
  after : e.high <ℤ v → w ≡ e.high → Place e v w

pub find_place : (e : Interval) (v : ℤ) → (w : ℤ) × Place e v w
find_place e v =
    by_lt_z v e.low (λ h. (e.low, before h refl)) (λ h. by_lt_z e.high v (λ k. (e.high, after k refl)) (λ k. (v, inside h k refl)))

pub place_inside : (e : Interval) (v w : ℤ) → Place e v w → HasNumber e w
place_inside e v w (before h r) = let o = e.ordered in record { from = omega (arith, ints); to = omega (arith, ints) }
place_inside e v w (inside h k r) = record { from = omega (arith, ints); to = omega (arith, ints) }
place_inside e v w (after h r) = let o = e.ordered in record { from = omega (arith, ints); to = omega (arith, ints) }

place_nearest : (e : Interval) (v w : ℤ) → Place e v w → (u : ℤ) → HasNumber e u → between w v ≤ between u v
place_nearest e v w (before h r) u m = omega (arith, ints)
place_nearest e v w (inside h k r) u m = omega (arith, ints)
place_nearest e v w (after h r) u m = omega (arith, ints)

pub image_from : (e : Interval) (v w : ℤ) → Place e v w → IsImage e v w
image_from e v w p = record { inside = place_inside e v w p; nearest = place_nearest e v w p }

number : (e : Interval) (v : ℤ) → e.low ≤ℤ v → v ≤ℤ e.high → HasNumber e v
number e v h k = record { from = h; to = k }

pub place_of : (e : Interval) (v w : ℤ) → IsImage e v w → Place e v w
place_of e v w i =
    let o = e.ordered in
    let m = i.inside in
    by_lt_z v e.low (λ h. let n = i.nearest e.low (record { from = omega (arith, ints); to = o }) in before h (omega (arith, ints)))
    (λ h. by_lt_z e.high v (λ k. let n = i.nearest e.high (record { from = o; to = omega (arith, ints) }) in after k (omega (arith, ints)))
    (λ k. let n = i.nearest v (number e v h k) in inside h k (omega (arith, ints))))

-- the image lies on the way to each number of the interval
pub on_the_way : (e : Interval) (v w u : ℤ) → Place e v w → HasNumber e u → between v w + between w u ≤ between v u
on_the_way e v w u (before h r) m = omega (arith, ints)
on_the_way e v w u (inside h k r) m = omega (arith, ints)
on_the_way e v w u (after h r) m = omega (arith, ints)
