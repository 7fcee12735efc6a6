-- What the calls on the two axes give for the plane.
use Rattle.std.proofs.Common.{ℕ, ℤ, ◌≡◌, ◌+◌, subst, sym}
use Rattle.geo_rect.specs.declared.shapes.Interval.{Interval}
use Rattle.geo_rect.specs.declared.shapes.Rect.{Rect}
use Rattle.geo_rect.specs.Axis.{IsWidened}
use Rattle.geo_rect.specs.Line.{IsGapBetween, IsFarthest, HasImages}
use Rattle.geo_rect.specs.Plane.{columns, rows, rect_of, IsGrown}
use Rattle.geo_rect.specs.Distance.{IsDistance, IsReach}
use Rattle.geo_rect.specs.Images.{IsClamped}
use Rattle.geo_rect.proofs.Distances.{distance_of}
use Rattle.geo_rect.proofs.Reaches.{reach_of}
use Rattle.geo_rect.proofs.Clamps.{clamped_of}

moved : (R : Interval → Interval → Type 0) (a b i j : Interval) → i ≡ a → j ≡ b → R i j → R a b
moved R a b i j e f r = let r1 : R a j = subst (λ (z : Interval). R z j) e r in subst (R a) f r1

grown_made : (b : Rect) (g : ℤ) (i j : Interval) → IsWidened (columns b) g i → IsWidened (rows b) g j → IsGrown b g (rect_of i j)
grown_made b g i j o q = record {
  close = λ p h. record { across = o.near p.x h.across; up = q.near p.y h.up };
  all = λ p h. record { across = o.all p.x h.across; up = q.all p.y h.up };
}

pub grown_of : (b r : Rect) (g z : ℤ) (i j k l : Interval) → z ≡ g → i ≡ columns b → j ≡ rows b → r ≡ rect_of k l → IsWidened i z k → IsWidened j z l → IsGrown b g r
grown_of b r g z i j k l eg ei ej er o q =
    let o1 : IsWidened (columns b) z k = subst (λ (y : Interval). IsWidened y z k) ei o in
    let q1 : IsWidened (rows b) z l = subst (λ (y : Interval). IsWidened y z l) ej q in
    let m : IsGrown b z r = subst (λ (y : Rect). IsGrown b z y) (sym er) (grown_made b z k l o1 q1) in
    subst (λ (y : ℤ). IsGrown b y r) eg m

-- of two calls on the columns and two on the rows
module _ (a b : Rect) (i i' j j' : Interval) (ei : i ≡ columns a) (ei' : i' ≡ columns b) (ej : j ≡ rows a) (ej' : j' ≡ rows b) where
  pub distance_from : (m n k : ℕ) → m + n ≡ k → IsGapBetween i i' m → IsGapBetween j j' n → IsDistance a b k
  distance_from m n k e g h =
      subst (λ (z : ℕ). IsDistance a b z) e
      (distance_of a b m n (moved (λ x y. IsGapBetween x y m) (columns a) (columns b) i i' ei ei' g) (moved (λ x y. IsGapBetween x y n) (rows a) (rows b) j j' ej ej' h))

  pub reach_from : (m n k : ℕ) → m + n ≡ k → IsFarthest i i' m → IsFarthest j j' n → IsReach a b k
  reach_from m n k e g h =
      subst (λ (z : ℕ). IsReach a b z) e
      (reach_of a b m n (moved (λ x y. IsFarthest x y m) (columns a) (columns b) i i' ei ei' g) (moved (λ x y. IsFarthest x y n) (rows a) (rows b) j j' ej ej' h))

  pub clamped_from : (k l : Interval) (r : Rect) → r ≡ rect_of k l → HasImages i i' k → HasImages j j' l → IsClamped a b r
  clamped_from k l r e g h =
      subst (λ (z : Rect). IsClamped a b z) (sym e)
      (clamped_of a b k l (moved (λ x y. HasImages x y k) (columns a) (columns b) i i' ei ei' g) (moved (λ x y. HasImages x y l) (rows a) (rows b) j j' ej ej' h))
