-- The distance of two rectangles: that there is one, that it is one, and its laws.
use Rattle.std.proofs.Common.{ℕ, ℤ, pos, ◌≡◌, ◌+◌, ◌*◌, ◌≤◌, ◌+ℤ◌, ◌≤ℤ◌, ◌<ℤ◌, ◌↔◌, subst, refl, arith}
use Rattle.std.proofs.lemmas.Int.{ints, by_lt_z}
use Rattle.geo_rect.specs.declared.shapes.Interval.{Interval}
use Rattle.geo_rect.specs.declared.shapes.Point.{Point}
use Rattle.geo_rect.specs.declared.shapes.Rect.{Rect}
use Rattle.geo_rect.specs.Axis.{HasNumber}
use Rattle.geo_rect.specs.Line.{between, IsGapBetween}
use Rattle.geo_rect.specs.Plane.{HasPoint, columns, rows, lone}
use Rattle.geo_rect.specs.Distance.{apart, IsAway, IsDistance, IsFarOut}
use Rattle.geo_rect.specs.Distance.IsFarOut.{on_right, on_left, above, below}
use Rattle.geo_rect.proofs.Steps.{between-zero}
use Rattle.geo_rect.proofs.Nearest.{apart-self, apart-sym, apart-triangle}

-- j begins at or after the end of i
pub gap_after : (i j : Interval) (n : ℕ) → i.high ≤ℤ j.low → between i.high j.low ≡ n → IsGapBetween i j n
gap_after i j n h e = record {
  reached = (i.high, j.low, record { from = i.ordered; to = omega (arith, ints) }, record { from = omega (arith, ints); to = j.ordered }, e);
  least = λ x y p q. omega (arith, ints);
}

-- j ends at or before the beginning of i
pub gap_before : (i j : Interval) (n : ℕ) → j.high ≤ℤ i.low → between i.low j.high ≡ n → IsGapBetween i j n
gap_before i j n h e = record {
  reached = (i.low, j.high, record { from = omega (arith, ints); to = i.ordered }, record { from = j.ordered; to = omega (arith, ints) }, e);
  least = λ x y p q. omega (arith, ints);
}

-- i and j share a number
pub gap_none : (i j : Interval) → i.low ≤ℤ j.high → j.low ≤ℤ i.high → IsGapBetween i j 0
gap_none i j h k =
    by_lt_z i.low j.low
    (λ (l : i.low <ℤ j.low). record {
      reached = (j.low, j.low, record { from = omega (arith, ints); to = k }, record { from = omega (arith, ints); to = j.ordered }, omega (arith, ints));
      least = λ x y p q. omega arith;
    })
    (λ (l : j.low ≤ℤ i.low). record {
      reached = (i.low, i.low, record { from = omega (arith, ints); to = i.ordered }, record { from = l; to = h }, omega (arith, ints));
      least = λ x y p q. omega arith;
    })

find_gap : (i j : Interval) → (n : ℕ) × IsGapBetween i j n
find_gap i j =
    by_lt_z i.high j.low
    (λ (h : i.high <ℤ j.low). (between i.high j.low, gap_after i j (between i.high j.low) (omega (arith, ints)) refl))
    (λ (h : j.low ≤ℤ i.high). by_lt_z j.high i.low
    (λ (k : j.high <ℤ i.low). (between i.low j.high, gap_before i j (between i.low j.high) (omega (arith, ints)) refl))
    (λ (k : i.low ≤ℤ j.high). (0, gap_none i j k h)))

pub distance_of : (a b : Rect) (m n : ℕ) → IsGapBetween (columns a) (columns b) m → IsGapBetween (rows a) (rows b) n → IsDistance a b (m + n)
distance_of a b m n g h =
    let x = g.reached in
    let y = h.reached in
    record {
      reached = (record { x = x.0; y = y.0 }, record { x = x.1; y = y.1 }, record { across = x.2; up = y.2 }, record { across = x.3; up = y.3 }, omega (arith, x.4, y.4));
      least = λ p q i j. omega (arith, g.least p.x q.x i.across j.across, h.least p.y q.y i.up j.up);
    }

pub find_distance : (a b : Rect) → (n : ℕ) × IsDistance a b n
find_distance a b =
    let x = find_gap (columns a) (columns b) in
    let y = find_gap (rows a) (rows b) in
    (x.0 + y.0, distance_of a b x.0 y.0 x.1 y.1)

pub distance_one : (a b : Rect) (m n : ℕ) → IsDistance a b m → IsDistance a b n → m ≡ n
distance_one a b m n p q =
    let x = p.reached in
    let y = q.reached in
    omega (arith, p.least y.0 y.1 y.2 y.3, q.least x.0 x.1 x.2 x.3, x.4, y.4)

pub distance_sym : (a b : Rect) (n : ℕ) → IsDistance a b n → IsDistance b a n
distance_sym a b n d =
    let x = d.reached in
    record {
      reached = (x.1, x.0, x.3, x.2, omega (arith, apart-sym x.0 x.1, x.4));
      least = λ p q i j. omega (arith, apart-sym p q, d.least q p j i);
    }

-- the distance of a to two points one step apart differs by at most one
pub step_grows : (a : Rect) (v w : Point) (m n : ℕ) → apart v w ≡ 1 → IsAway a v m → IsAway a w n → n ≤ m + 1
step_grows a v w m n e p q =
    let x = p.reached in
    omega (arith, q.least x.0 x.1, apart-triangle x.0 v w, x.2)

pub step_falls : (a : Rect) (v w : Point) (m n : ℕ) → apart v w ≡ 1 → IsAway a v m → IsAway a w n → m ≤ n + 1
step_falls a v w m n e p q =
    let x = q.reached in
    omega (arith, p.least x.0 x.1, apart-triangle x.0 w v, apart-sym w v, x.2)

pub distance_triangle : (a c : Rect) (v : Point) (m n k : ℕ) → IsAway a v m → IsAway c v n → IsDistance a c k → k ≤ m + n
distance_triangle a c v m n k p q d =
    let x = p.reached in
    let y = q.reached in
    omega (arith, d.least x.0 y.0 x.1 y.1, apart-triangle x.0 v y.0, apart-sym v y.0, x.2, y.2)

pub on_point : (r : Rect) (p q : Point) → apart p q ≡ 0 → HasPoint r p → HasPoint r q
on_point r p q e h =
    let ex : between p.x q.x ≡ 0 = omega arith in
    let ey : between p.y q.y ≡ 0 = omega arith in
    record {
      across = subst (λ (z : ℤ). HasNumber (columns r) z) (between-zero p.x q.x ex) h.across;
      up = subst (λ (z : ℤ). HasNumber (rows r) z) (between-zero p.y q.y ey) h.up;
    }

pub distance_zero : (a b : Rect) (n : ℕ) → IsDistance a b n → (n ≡ 0) ↔ ((p : Point) × HasPoint a p × HasPoint b p)
distance_zero a b n d = (
  λ (e : n ≡ 0). let x = d.reached in (x.1, on_point a x.0 x.1 (omega (arith, x.4)) x.2, x.3),
  λ s. omega (arith, d.least s.0 s.0 s.1 s.2, apart-self s.0),
)

pub lone_point : (v p : Point) → HasPoint (lone v) p → apart v p ≡ 0
lone_point v p h =
    let a = h.across in
    let b = h.up in
    let ex : between v.x p.x ≡ 0 = omega (arith, ints) in
    let ey : between v.y p.y ≡ 0 = omega (arith, ints) in
    omega arith

pub lone_has : (v : Point) → HasPoint (lone v) v
lone_has v = record { across = record { from = omega (arith, ints); to = omega (arith, ints) }; up = record { from = omega (arith, ints); to = omega (arith, ints) } }

pub away_as_distance : (a : Rect) (v : Point) (n : ℕ) → IsAway a v n ↔ IsDistance a (lone v) n
away_as_distance a v n = (
  λ w. let x = w.reached in record {
    reached = (x.0, v, x.1, lone_has v, x.2);
    least = λ p q i j. omega (arith, w.least p i, apart-triangle p q v, apart-sym q v, lone_point v q j);
  },
  λ d. let x = d.reached in record {
    reached = (x.0, x.2, omega (arith, d.least x.0 v x.2 (lone_has v), apart-triangle x.0 x.1 v, apart-sym x.1 v, lone_point v x.1 x.3, x.4));
    least = λ p i. d.least p v i (lone_has v);
  },
)

-- on one axis: beyond x and y by more than m
beyond_after : (x y v : ℤ) (m : ℕ) → (x +ℤ pos m) <ℤ v → (y +ℤ pos m) <ℤ v → between x y + 2 * (m + 1) ≤ between x v + between y v
beyond_after x y v m p q = omega (arith, ints)

beyond_before : (x y v : ℤ) (m : ℕ) → (v +ℤ pos m) <ℤ x → (v +ℤ pos m) <ℤ y → between x y + 2 * (m + 1) ≤ between x v + between y v
beyond_before x y v m p q = omega (arith, ints)

aside : (x y v : ℤ) → between x y ≤ between x v + between y v
aside x y v = omega (arith, ints)

far_points : (a b : Rect) (v p q : Point) (m : ℕ) → IsFarOut a b v m → HasPoint a p → HasPoint b q → apart p q + 2 * (m + 1) ≤ apart p v + apart q v
far_points a b v p q m (on_right h k) i j =
    let u = i.across in
    let w = j.across in
    omega (arith, beyond_after p.x q.x v.x m (omega (arith, ints)) (omega (arith, ints)), aside p.y q.y v.y)
far_points a b v p q m (on_left h k) i j =
    let u = i.across in
    let w = j.across in
    omega (arith, beyond_before p.x q.x v.x m (omega (arith, ints)) (omega (arith, ints)), aside p.y q.y v.y)
far_points a b v p q m (above h k) i j =
    let u = i.up in
    let w = j.up in
    omega (arith, beyond_after p.y q.y v.y m (omega (arith, ints)) (omega (arith, ints)), aside p.x q.x v.x)
far_points a b v p q m (below h k) i j =
    let u = i.up in
    let w = j.up in
    omega (arith, beyond_before p.y q.y v.y m (omega (arith, ints)) (omega (arith, ints)), aside p.x q.x v.x)

pub far_detour : (a b : Rect) (v : Point) (m j k n : ℕ) → IsFarOut a b v m → IsAway a v j → IsAway b v k → IsDistance a b n → n + 2 * (m + 1) ≤ j + k
far_detour a b v m j k n o p q d =
    let x = p.reached in
    let y = q.reached in
    omega (arith, d.least x.0 y.0 x.1 y.1, far_points a b v x.0 y.0 m o x.1 y.1, x.2, y.2)
