-- The tests compute their facts, both ways.
use Rattle.std.proofs.Common.{◌≡◌, ℤ, ◌+ℤ◌, ◌<ℤ◌, ◌≤ℤ◌, Bool, true, false, T, refl, sym, subst, Decides}
use Rattle.std.specs.Prelude.{int_lt, int_le}
use Rattle.std.proofs.lemmas.Bool.Decides.{Decides-and, Decides-like}
use Rattle.geo_rect.specs.declared.shapes.Interval.{Interval}
use Rattle.geo_rect.specs.declared.shapes.Rect.{Rect}
use Rattle.geo_rect.specs.Axis.{IsNear, LiesWithin}
use Rattle.geo_rect.specs.Plane.{IsTooClose, LiesIn, columns, rows}
use Rattle.geo_rect.specs.Tests.{are_near, are_too_close, lies_within, lies_in}

passed : (b : Bool) → T b → b ≡ true
passed true t = refl
passed false t = elim t [ ]

pub Decides-int_lt : (x y : ℤ) → Decides (int_lt x y) (x <ℤ y)
Decides-int_lt x y = (λ e. record { lt = subst T (sym e) tt }, λ h. passed (int_lt x y) h.lt)

pub Decides-int_le : (x y : ℤ) → Decides (int_le x y) (x ≤ℤ y)
Decides-int_le x y = (λ e. record { le = subst T (sym e) tt }, λ h. passed (int_le x y) h.le)

pub Decides-are_near : (a b : Interval) (s : ℤ) → Decides (are_near a b s) (IsNear a b s)
Decides-are_near a b s =
    Decides-like (are_near a b s) (λ h. record { after = h.0; before = h.1 }) (λ h. (h.after, h.before))
    (Decides-and _ _ (Decides-int_lt b.low (a.high +ℤ s)) (Decides-int_lt a.low (b.high +ℤ s)))

pub Decides-are_too_close : (a b : Rect) (s : ℤ) → Decides (are_too_close a b s) (IsTooClose a b s)
Decides-are_too_close a b s =
    Decides-like (are_too_close a b s) (λ h. record { across = h.0; up = h.1 }) (λ h. (h.across, h.up))
    (Decides-and _ _ (Decides-are_near (columns a) (columns b) s) (Decides-are_near (rows a) (rows b) s))

pub Decides-lies_within : (a b : Interval) → Decides (lies_within a b) (LiesWithin a b)
Decides-lies_within a b =
    Decides-like (lies_within a b) (λ h. record { from = h.0; to = h.1 }) (λ h. (h.from, h.to))
    (Decides-and _ _ (Decides-int_le b.low a.low) (Decides-int_le a.high b.high))

pub Decides-lies_in : (a b : Rect) → Decides (lies_in a b) (LiesIn a b)
Decides-lies_in a b =
    Decides-like (lies_in a b) (λ h. record { across = h.0; up = h.1 }) (λ h. (h.across, h.up))
    (Decides-and _ _ (Decides-lies_within (columns a) (columns b)) (Decides-lies_within (rows a) (rows b)))
