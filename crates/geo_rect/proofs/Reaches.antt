-- How far a rectangle reaches past another: that there is such a number, that it is one, and its laws.
use Rattle.std.proofs.Common.{ℕ, ℤ, pos, ◌≡◌, ◌+◌, ◌≤◌, ◌+ℤ◌, ◌≤ℤ◌, ◌<ℤ◌, ◌↔◌, arith}
use Rattle.std.proofs.lemmas.Int.{ints, by_lt_z}
use Rattle.geo_rect.specs.declared.shapes.Interval.{Interval}
use Rattle.geo_rect.specs.declared.shapes.Point.{Point}
use Rattle.geo_rect.specs.declared.shapes.Rect.{Rect}
use Rattle.geo_rect.specs.Axis.{HasNumber}
use Rattle.geo_rect.specs.Line.{between, IsFarthest}
use Rattle.geo_rect.specs.Plane.{HasPoint, columns, rows}
use Rattle.geo_rect.specs.Distance.{IsAway, IsReach}
use Rattle.geo_rect.proofs.Steps.{Place, find_place, place_inside}
use Rattle.geo_rect.proofs.Steps.Place.{before, inside, after}
use Rattle.geo_rect.proofs.Nearest.{apart-self, apart-triangle, find_away}
use Rattle.geo_rect.proofs.Distances.{on_point}

place_within : (i j : Interval) (n : ℕ) (x y : ℤ) → i.low ≤ℤ (j.low +ℤ pos n) → j.high ≤ℤ (i.high +ℤ pos n) → HasNumber j y → Place i y x → between x y ≤ n
place_within i j n x y h k m (before l r) = omega (arith, ints)
place_within i j n x y h k m (inside l o r) = omega (arith, ints)
place_within i j n x y h k m (after l r) = omega (arith, ints)

all_within : (i j : Interval) (n : ℕ) → i.low ≤ℤ (j.low +ℤ pos n) → j.high ≤ℤ (i.high +ℤ pos n) → (y : ℤ) → HasNumber j y → (x : ℤ) × HasNumber i x × (between x y ≤ n)
all_within i j n h k y m =
    let x = find_place i y in
    (x.0, place_inside i y x.0 x.1, place_within i j n x.0 y h k m x.1)

-- the least number of j is farthest from i
pub far_before : (i j : Interval) (n : ℕ) → i.low ≡ j.low +ℤ pos n → j.high ≤ℤ (i.high +ℤ pos n) → IsFarthest i j n
far_before i j n e k = record {
  reached = (j.low, record { from = omega (arith, ints); to = j.ordered }, λ x h. omega (arith, ints));
  within = all_within i j n (omega (arith, ints)) k;
}

-- the greatest number of j is farthest from i
pub far_after : (i j : Interval) (n : ℕ) → j.high ≡ i.high +ℤ pos n → i.low ≤ℤ (j.low +ℤ pos n) → IsFarthest i j n
far_after i j n e k = record {
  reached = (j.high, record { from = j.ordered; to = omega (arith, ints) }, λ x h. omega (arith, ints));
  within = all_within i j n k (omega (arith, ints));
}

-- j lies within i
pub far_none : (i j : Interval) → i.low ≤ℤ j.low → j.high ≤ℤ i.high → IsFarthest i j 0
far_none i j h k = record {
  reached = (j.low, record { from = omega (arith, ints); to = j.ordered }, λ x m. omega arith);
  within = all_within i j 0 (omega (arith, ints)) (omega (arith, ints));
}

far_low : (i j : Interval) → j.low <ℤ i.low → (n : ℕ) × IsFarthest i j n
far_low i j h =
    let m = between i.low j.low in
    by_lt_z (i.high +ℤ pos m) j.high
    (λ (k : (i.high +ℤ pos m) <ℤ j.high). (between j.high i.high, far_after i j (between j.high i.high) (omega (arith, ints)) (omega (arith, ints))))
    (λ (k : j.high ≤ℤ (i.high +ℤ pos m)). (m, far_before i j m (omega (arith, ints)) k))

find_farthest : (i j : Interval) → (n : ℕ) × IsFarthest i j n
find_farthest i j =
    by_lt_z j.low i.low
    (far_low i j)
    (λ (h : i.low ≤ℤ j.low). by_lt_z i.high j.high
    (λ (k : i.high <ℤ j.high). (between j.high i.high, far_after i j (between j.high i.high) (omega (arith, ints)) (omega (arith, ints))))
    (λ (k : j.high ≤ℤ i.high). (0, far_none i j h k)))

pub reach_of : (a b : Rect) (m n : ℕ) → IsFarthest (columns a) (columns b) m → IsFarthest (rows a) (rows b) n → IsReach a b (m + n)
reach_of a b m n g h =
    let y1 = g.reached in
    let y2 = h.reached in
    let x1 = g.within y1.0 y1.1 in
    let x2 = h.within y2.0 y2.1 in
    record {
      reached = (
        record { x = y1.0; y = y2.0 },
        record { across = y1.1; up = y2.1 },
        record {
          reached = (record { x = x1.0; y = x2.0 }, record { across = x1.1; up = x2.1 }, omega (arith, x1.2, x2.2, y1.2 x1.0 x1.1, y2.2 x2.0 x2.1));
          least = λ p k. omega (arith, y1.2 p.x k.across, y2.2 p.y k.up);
        },
      );
      greatest = λ q k i w.
          let z1 = g.within q.x i.across in
          let z2 = h.within q.y i.up in
          omega (arith, z1.2, z2.2, w.least (record { x = z1.0; y = z2.0 }) (record { across = z1.1; up = z2.1 }));
    }

pub find_reach : (a b : Rect) → (n : ℕ) × IsReach a b n
find_reach a b =
    let x = find_farthest (columns a) (columns b) in
    let y = find_farthest (rows a) (rows b) in
    (x.0 + y.0, reach_of a b x.0 y.0 x.1 y.1)

pub reach_one : (a b : Rect) (m n : ℕ) → IsReach a b m → IsReach a b n → m ≡ n
reach_one a b m n p q =
    let x = p.reached in
    let y = q.reached in
    omega (arith, p.greatest y.0 n y.1 y.2, q.greatest x.0 m x.1 x.2)

-- what g is near to, f is near to but for its reach to g
pub reach_covers : (f g : Rect) (v : Point) (k r m : ℕ) → IsAway f v k → IsReach f g r → IsAway g v m → k ≤ r + m
reach_covers f g v k r m p t q =
    let y = q.reached in
    let s = find_away f y.0 in
    let x = s.1.reached in
    omega (arith, p.least x.0 x.1, apart-triangle x.0 y.0 v, x.2, y.2, t.greatest y.0 s.0 y.1 s.1)

pub reach_zero : (f g : Rect) (n : ℕ) → IsReach f g n → (n ≡ 0) ↔ ((p : Point) → HasPoint g p → HasPoint f p)
reach_zero f g n t = (
  λ (e : n ≡ 0) q h.
      let s = find_away f q in
      let x = s.1.reached in
      on_point f x.0 q (omega (arith, x.2, t.greatest q s.0 h s.1)) x.1,
  λ a. let y = t.reached in omega (arith, y.2.least y.0 (a y.0 y.1), apart-self y.0),
)
