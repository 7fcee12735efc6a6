-- Intervals and rectangles with the same numbers are the same.
use Rattle.std.proofs.Common.{ℤ, ◌≡◌, ◌≤ℤ◌, ap, subst}
use Rattle.std.proofs.Props.{props}
use Rattle.geo_rect.specs.declared.shapes.Interval.{Interval}
use Rattle.geo_rect.specs.declared.shapes.Rect.{Rect}
use Rattle.geo_rect.specs.Plane.{columns, rows, rect_of}

one_order : (x y : ℤ) → IsProp (x ≤ℤ y)
one_order x y = hlevel props

made : (x y : ℤ) → x ≤ℤ y → Interval
made x y p = record { low = x; high = y; ordered = p }

same_made : (x y x' y' : ℤ) (p : x ≤ℤ y) (q : x' ≤ℤ y') → x ≡ x' → y ≡ y' → made x y p ≡ made x' y' q
same_made x y x' y' p q l h =
    let P : ℤ → Type 0 = λ z. (r : z ≤ℤ y') → made x y p ≡ made z y' r in
    let Q : ℤ → Type 0 = λ z. (r : x ≤ℤ z) → made x y p ≡ made x z r in
    subst P l (subst Q h (λ r. ap (made x y) (one_order x y p r))) q

pub same_interval : (a b : Interval) → a.low ≡ b.low → a.high ≡ b.high → a ≡ b
unfolding made
same_interval a b l h = same_made a.low a.high b.low b.high a.ordered b.ordered l h

pub same_rect : (a b : Rect) → columns a ≡ columns b → rows a ≡ rows b → a ≡ b
same_rect a b c r =
    let P : Interval → Type 0 = λ z. rect_of (columns a) (rows a) ≡ rect_of z (rows b) in
    subst P c (ap (rect_of (columns a)) r)
