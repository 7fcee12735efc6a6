-- Clamped rectangles: that there is one, that it is one, and the laws that a front moved to the next rectangle keeps.
use Rattle.std.proofs.Common.{ℕ, ℤ, ◌≡◌, ◌+◌, ◌≤◌, ◌≤ℤ◌, ◌<ℤ◌, subst, sym, refl, arith}
use Rattle.std.proofs.lemmas.Int.{ints}
use Rattle.geo_rect.specs.declared.shapes.Interval.{Interval}
use Rattle.geo_rect.specs.declared.shapes.Point.{Point}
use Rattle.geo_rect.specs.declared.shapes.Rect.{Rect}
use Rattle.geo_rect.specs.Axis.{HasNumber}
use Rattle.geo_rect.specs.Line.{between, HasImages}
use Rattle.geo_rect.specs.Line as line
use Rattle.geo_rect.specs.Plane.{HasPoint, LiesIn, columns, rows, rect_of, lone}
use Rattle.geo_rect.specs.Distance.{apart, IsAway, IsDistance}
use Rattle.geo_rect.specs.Images.{IsImage, IsClamped}
use Rattle.geo_rect.proofs.Parts.{lies_in_from, same_points}
use Rattle.geo_rect.proofs.Steps.{Place, find_place, place_inside, image_from, place_of}
use Rattle.geo_rect.proofs.Steps.Place.{before, inside, after}
use Rattle.geo_rect.proofs.Nearest.{apart-sym, apart-triangle, find_image, image_inside, image_on_the_way, image_away}
use Rattle.geo_rect.proofs.Distances.{lone_point}

-- a later number has no earlier image
pub place_rises : (e : Interval) (u v w x : ℤ) → Place e u w → Place e v x → u ≤ℤ v → w ≤ℤ x
place_rises e u v w x (before h r) (before k s) l = omega (arith, ints)
place_rises e u v w x (before h r) (inside k m s) l = omega (arith, ints)
place_rises e u v w x (before h r) (after k s) l = let o = e.ordered in omega (arith, ints)
place_rises e u v w x (inside h n r) (before k s) l = omega (arith, ints)
place_rises e u v w x (inside h n r) (inside k m s) l = omega (arith, ints)
place_rises e u v w x (inside h n r) (after k s) l = omega (arith, ints)
place_rises e u v w x (after h r) (before k s) l = let o = e.ordered in omega (arith, ints)
place_rises e u v w x (after h r) (inside k m s) l = omega (arith, ints)
place_rises e u v w x (after h r) (after k s) l = omega (arith, ints)

-- a number from the image of i's least to that of its greatest is the image of the number of i nearest to it
low_source : (i e : Interval) (w x : ℤ) → w <ℤ i.low → Place e i.low x → x ≤ℤ w → HasNumber e w → Place e i.low w
low_source i e w x l (before h r) k m = let n = m.from in absurd (omega (arith, ints))
low_source i e w x l (inside h n r) k m = absurd (omega (arith, ints))
low_source i e w x l (after h r) k m = let n = m.to in after h (omega (arith, ints))

high_source : (i e : Interval) (w x : ℤ) → i.high <ℤ w → Place e i.high x → w ≤ℤ x → HasNumber e w → Place e i.high w
high_source i e w x l (before h r) k m = let n = m.from in before h (omega (arith, ints))
high_source i e w x l (inside h n r) k m = absurd (omega (arith, ints))
high_source i e w x l (after h r) k m = let n = m.to in absurd (omega (arith, ints))

source_place : (i e : Interval) (w v x y : ℤ) → Place i w v → Place e i.low x → Place e i.high y → x ≤ℤ w → w ≤ℤ y → HasNumber e w → Place e v w
source_place i e w v x y (before h r) p q k l m = subst (λ (z : ℤ). Place e z w) (sym r) (low_source i e w x h p k m)
source_place i e w v x y (inside h n r) p q k l m = inside (let f = m.from in omega (arith, ints)) (let t = m.to in omega (arith, ints)) (sym r)
source_place i e w v x y (after h r) p q k l m = subst (λ (z : ℤ). Place e z w) (sym r) (high_source i e w y h q l m)

pub images_of : (i e r : Interval) → Place e i.low r.low → Place e i.high r.high → HasImages i e r
images_of i e r p q = record {
  each = λ v w h m.
      let s = place_of e v w m in
      record { from = place_rises e i.low v r.low w p s h.from; to = place_rises e v i.high w r.high s q h.to };
  only = λ w h.
      let a = place_inside e i.low r.low p in
      let b = place_inside e i.high r.high q in
      let m : HasNumber e w = record { from = omega (arith, ints); to = omega (arith, ints) } in
      let v = find_place i w in
      (v.0, place_inside i w v.0 v.1, image_from e v.0 w (source_place i e w v.0 r.low r.high v.1 p q h.from h.to m));
}

-- the same, from the images of the ends
pub images_rise : (i e : Interval) (u v w x : ℤ) → u ≡ i.low → v ≡ i.high → line.IsImage e u w → line.IsImage e v x → w ≤ℤ x
images_rise i e u v w x eu ev p q =
    let o = i.ordered in
    place_rises e u v w x (place_of e u w p) (place_of e v x q) (omega (arith, ints))

pub images_from : (i e r : Interval) (u v w x : ℤ) → u ≡ i.low → v ≡ i.high → w ≡ r.low → x ≡ r.high → line.IsImage e u w → line.IsImage e v x → HasImages i e r
images_from i e r u v w x eu ev ew ex p q =
    let p1 : Place e i.low w = subst (λ (z : ℤ). Place e z w) eu (place_of e u w p) in
    let q1 : Place e i.high x = subst (λ (z : ℤ). Place e z x) ev (place_of e v x q) in
    images_of i e r (subst (λ (z : ℤ). Place e i.low z) ew p1) (subst (λ (z : ℤ). Place e i.high z) ex q1)

pub clamped_of : (b e : Rect) (i j : Interval) → HasImages (columns b) (columns e) i → HasImages (rows b) (rows e) j → IsClamped b e (rect_of i j)
clamped_of b e i j g h = record {
  each = λ p q k m. record { across = g.each p.x q.x k.across m.across; up = h.each p.y q.y k.up m.up };
  only = λ q k.
      let x = g.only q.x k.across in
      let y = h.only q.y k.up in
      (record { x = x.0; y = y.0 }, record { across = x.1; up = y.1 }, record { across = x.2; up = y.2 });
}

find_images : (i e : Interval) → (r : Interval) × HasImages i e r
find_images i e =
    let x = find_place e i.low in
    let y = find_place e i.high in
    let r : Interval = record { low = x.0; high = y.0; ordered = place_rises e i.low i.high x.0 y.0 x.1 y.1 i.ordered } in
    (r, images_of i e r x.1 y.1)

pub find_clamped : (b e : Rect) → (c : Rect) × IsClamped b e c
find_clamped b e =
    let x = find_images (columns b) (columns e) in
    let y = find_images (rows b) (rows e) in
    (rect_of x.0 y.0, clamped_of b e x.0 y.0 x.1 y.1)

pub clamped_one : (b e c d : Rect) → IsClamped b e c → IsClamped b e d → c ≡ d
clamped_one b e c d p q =
    same_points c d
    (λ r h. let s = p.only r h in q.each s.0 r s.1 s.2)
    (λ r h. let s = q.only r h in p.each s.0 r s.1 s.2)

pub clamped_point : (b e c : Rect) (p : Point) → IsClamped b e c → HasPoint c p → HasPoint e p
clamped_point b e c p k h = let s = k.only p h in image_inside e s.0 p s.2

pub clamped_lies_in : (b e c : Rect) → IsClamped b e c → LiesIn c e
clamped_lies_in b e c k = lies_in_from c e (λ p h. clamped_point b e c p k h)

-- the law of the moved front: nothing is lost on the way through e
pub clamped_detour : (f e c : Rect) (v : Point) (m n k : ℕ) → HasPoint e v → IsClamped f e c → IsDistance f e m → IsAway c v n → IsAway f v k → m + n ≤ k
clamped_detour f e c v m n k hv cl d p q =
    let x = q.reached in
    let w = find_image e x.0 in
    omega (arith, x.2, d.least x.0 w.0 x.1 (image_inside e x.0 w.0 w.1), p.least w.0 (cl.each x.0 w.0 x.1 w.1), image_on_the_way e x.0 w.0 v w.1 hv)

-- on one axis: the image p of a number of f is as near to f as any number of e
level_on : (f e : Interval) (q p r x y : ℤ) → HasNumber f q → Place e q p → Place f p r → HasNumber f x → HasNumber e y → between r p ≤ between x y
level_on f e q p r x y i (before h s) (before k t) l m = omega (arith, ints)
level_on f e q p r x y i (before h s) (inside k n t) l m = omega (arith, ints)
level_on f e q p r x y i (before h s) (after k t) l m = omega (arith, ints)
level_on f e q p r x y i (inside h o s) (before k t) l m = omega (arith, ints)
level_on f e q p r x y i (inside h o s) (inside k n t) l m = omega (arith, ints)
level_on f e q p r x y i (inside h o s) (after k t) l m = omega (arith, ints)
level_on f e q p r x y i (after h s) (before k t) l m = omega (arith, ints)
level_on f e q p r x y i (after h s) (inside k n t) l m = omega (arith, ints)
level_on f e q p r x y i (after h s) (after k t) l m = omega (arith, ints)

level_points : (f e : Rect) (q p r x y : Point) → HasPoint f q → IsImage e q p → IsImage f p r → HasPoint f x → HasPoint e y → apart r p ≤ apart x y
level_points f e q p r x y h i j k l =
    omega (
      arith,
      level_on (columns f) (columns e) q.x p.x r.x x.x y.x h.across (place_of (columns e) q.x p.x i.across) (place_of (columns f) p.x r.x j.across) k.across l.across,
      level_on (rows f) (rows e) q.y p.y r.y x.y y.y h.up (place_of (rows e) q.y p.y i.up) (place_of (rows f) p.y r.y j.up) k.up l.up,
    )

-- each point of the moved front is as far from f as e is
pub clamped_level : (f e c : Rect) (p : Point) (m : ℕ) → IsClamped f e c → IsDistance f e m → HasPoint c p → IsAway f p m
clamped_level f e c p m cl d h =
    let q = cl.only p h in
    let r = find_image f p in
    let x = d.reached in
    let hp = image_inside e q.0 p q.2 in
    let hr = image_inside f p r.0 r.1 in
    record {
      reached = (r.0, hr, omega (arith, x.4, level_points f e q.0 p r.0 x.0 x.1 q.1 q.2 r.1 x.2 x.3, d.least r.0 p hr hp));
      least = λ s k. d.least s p k hp;
    }

-- clamping one point v into f gives the point of f nearest to v
pub clamped_nearest : (f c : Rect) (v p : Point) → IsClamped (lone v) f c → HasPoint c p → HasPoint f p × IsAway f v (apart p v)
clamped_nearest f c v p k h =
    let s = k.only p h in
    let e = lone_point v s.0 s.1 in
    let w = image_away f s.0 p s.2 in (
      image_inside f s.0 p s.2,
      record {
        reached = (p, image_inside f s.0 p s.2, refl);
        least = λ q i. omega (arith, w.least q i, apart-triangle p s.0 v, apart-triangle q v s.0, apart-sym s.0 v, e);
      },
    )
