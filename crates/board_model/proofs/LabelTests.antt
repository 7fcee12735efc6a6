-- The tests by which labels are computed decide the facts that labels are explained by.
use Rattle.std.proofs.Common.{◌≡◌, ℤ, pos, List, All, true, not, refl, Option, Some, None, Decides}
use Rattle.std.specs.Prelude.{IsSomeAnd}
use Rattle.std.specs.List.{list_all}
use Rattle.std.proofs.lemmas.Bool.{false≢true}
use Rattle.std.proofs.lemmas.Bool.Decides.{Decides-and, Decides-not, Decides-like, Decides-by_and}
use Rattle.geo_rect.specs.declared.shapes.Point.{Point}
use Rattle.geo_rect.specs.declared.shapes.Rect.{Rect}
use Rattle.geo_rect.specs.Plane.{IsTooClose, square}
use Rattle.geo_rect.proofs.Tests.{Decides-are_too_close}
use Rattle.board_parts.specs.declared.parts.BoardParts.{BoardParts}
use Rattle.board_parts.specs.declared.parts.Keepout.{Keepout}
use Rattle.board_model.specs.declared.shapes.Shape.{Shape}
use Rattle.board_model.specs.Labels.{PlaneRule, Hits, Shuts, IsAllowed, breaks_kept_gap, does_hit, does_shut, is_allowed}
use Rattle.board_model.proofs.Decisions.{Decides-keeps_outline}

Decides-breaks_kept_gap : (gap : Option ℤ) (x y : Rect) → Decides (breaks_kept_gap x y gap) (IsSomeAnd gap (λ (g : ℤ). IsTooClose x y g))
Decides-breaks_kept_gap None x y = (λ e. false≢true e, λ h. absurd h)
Decides-breaks_kept_gap (Some g) x y = Decides-are_too_close x y g

pub Decides-does_hit : (r : PlaneRule) (p : Point) (s : Shape) → Decides (does_hit r p s) (Hits r p s)
Decides-does_hit r p s = Decides-breaks_kept_gap (r.gap_from s) (square p (r.half_on s.layer)) s.area

is_itself : (r : PlaneRule) (k : Keepout) → Decides (r.heeds k) (r.heeds k ≡ true)
is_itself r k = (λ e. e, λ e. e)

pub Decides-does_shut : (r : PlaneRule) (p : Point) (k : Keepout) → Decides (does_shut r p k) (Shuts r p k)
Decides-does_shut r p k =
    Decides-like (does_shut r p k) (λ h. record { heeded = h.0; close = h.1 }) (λ h. (h.heeded, h.close))
    (Decides-and _ _ (is_itself r k) (Decides-are_too_close (square p (r.half_on k.layer)) k.area (pos 1)))

pub Decides-is_allowed : (b : BoardParts) (r : PlaneRule) (p : Point) → Decides (is_allowed b r p) (IsAllowed b r p)
Decides-is_allowed b r p =
    let none : Decides (list_all (λ (k : Keepout). not (does_shut r p k)) b.keepouts) (All (λ (k : Keepout). ¬ Shuts r p k) b.keepouts) =
    Decides-by_and (λ (k : Keepout). not (does_shut r p k)) (λ (k : Keepout). ¬ Shuts r p k) (list_all (λ (k : Keepout). not (does_shut r p k))) (λ k. Decides-not (does_shut r p k) (Decides-does_shut r p k)) refl (λ k ks. refl) b.keepouts in
    Decides-like (is_allowed b r p) (λ h. record { fits = h.0; clear = h.1 }) (λ h. (h.fits, h.clear))
    (Decides-and _ _ (Decides-keeps_outline b (square p r.widest)) none)
