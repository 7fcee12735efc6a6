-- A labelled domain has one list of strips, and it leaves none out.
use Rattle.std.proofs.Common.{◌≡◌, sym, subst, List, Contains}
use Rattle.geo_rect.specs.declared.ids.Label.{Label}
use Rattle.geo_rect.specs.declared.shapes.Point.{Point}
use Rattle.geo_rect.specs.declared.shapes.Rect.{Rect}
use Rattle.plane_core.specs.declared.strips.Strip.{Strip}
use Rattle.plane_core.specs.Strips.{AreStrips, IsHeld, IsStrip}
use Rattle.plane_core.proofs.Alike.{corner, corner_point, strip_inside, strips_meet}
use Rattle.plane_core.proofs.Ordered.{same_members}

pub listed_strip : (domain : Rect) (f : Point → Label) (ss : List Strip) (s : Strip) → AreStrips domain f ss → IsStrip domain f s → Contains ss s
listed_strip domain f ss s are is =
    let h : IsHeld ss (corner s) = are.covered (corner s) (strip_inside domain f s (corner s) is (corner_point s)) in
    let e : s ≡ h.by = strips_meet domain f s h.by (corner s) is (are.each h.by h.is_listed) (corner_point s) h.has_point in
    let P : Strip → Type 0 = λ t. Contains ss t in
    subst P (sym e) h.is_listed

pub same_strips : (domain : Rect) (f : Point → Label) (ss ts : List Strip) → AreStrips domain f ss → AreStrips domain f ts → ss ≡ ts
same_strips domain f ss ts of_first of_second =
    same_members ss ts of_first.in_order of_second.in_order
    (λ s h. listed_strip domain f ts s of_second (of_first.each s h))
    (λ s h. listed_strip domain f ss s of_first (of_second.each s h))
