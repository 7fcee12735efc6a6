-- The strips that meet the whole domain are all of them, and a strip has the label of its corner.
use Rattle.std.proofs.Common.{◌≡◌, List, Contains}
use Rattle.geo_rect.specs.declared.ids.Label.{Label}
use Rattle.geo_rect.specs.declared.shapes.Point.{Point}
use Rattle.geo_rect.specs.declared.shapes.Rect.{Rect}
use Rattle.plane_core.specs.declared.strips.Strip.{Strip}
use Rattle.plane_core.specs.Choice.{IsChoice, Meets}
use Rattle.plane_core.specs.Strips.{AreStrips}
use Rattle.plane_core.proofs.Alike.{corner, corner_point, strip_inside}
use Rattle.plane_core.proofs.Local.{strip_labels}
use Rattle.plane_core.proofs.Ordered.{same_members}

pub whole_choice : (domain : Rect) (f : Point → Label) (ss found : List Strip) → AreStrips domain f ss → IsChoice ss (λ s. Meets s.area domain) found → found ≡ ss
whole_choice domain f ss found are c =
    same_members found ss c.in_order are.in_order c.listed
    (λ s h. c.complete s h (record {
      at = corner s;
      in_first = corner_point s;
      in_second = strip_inside domain f s (corner s) (are.each s h) (corner_point s);
    }))

pub corner_label : (domain : Rect) (f : Point → Label) (ss : List Strip) (s : Strip) → AreStrips domain f ss → Contains ss s → f (corner s) ≡ s.label
corner_label domain f ss s are h = strip_labels domain f s (are.each s h) (corner s) (corner_point s)
