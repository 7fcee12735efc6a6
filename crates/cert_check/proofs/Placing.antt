-- Well placed entries: where they are, and how their strips lie to each other.
use Rattle.std.proofs.Common.{◌≡◌, ◌≢◌, subst}
use Rattle.geo_rect.specs.declared.ids.LayerId.{LayerId}
use Rattle.geo_rect.specs.declared.shapes.Point.{Point}
use Rattle.geo_rect.specs.declared.shapes.Rect.{Rect}
use Rattle.geo_rect.specs.Plane.{HasPoint, ShareNoPoint}
use Rattle.geo_rect.proofs.Parts.{lies_in_points}
use Rattle.route_law.specs.declared.certs.Entry.{Entry}
use Rattle.route_law.specs.Ground.{Ground, IsGround, IsWireStrip}
use Rattle.route_law.specs.Right.{IsWellPlaced}
use Rattle.route_law.proofs.Passed.{one_wire_strip}
use Rattle.cert_check.specs.Passages.{IsWirePassage}

-- the strip of a well placed entry has each point of its front
pub placed_passage : (g : Ground) (e : Entry) (p : Point) → HasPoint e.front p → IsWellPlaced g e → IsWirePassage g e.layer p e.strip
placed_passage g e p h w = record { strip = w.passable; has_point = (lies_in_points e.front e.strip).0 w.holds p h }

pub one_passage : (g : Ground) (l : LayerId) (p : Point) (t u : Rect) → IsGround g → IsWirePassage g l p t → IsWirePassage g l p u → t ≡ u
one_passage g l p t u ground a b = one_wire_strip g l t u p ground a.strip b.strip a.has_point b.has_point

-- two strips of one layer that differ share no point
pub strips_apart : (g : Ground) (x e : Entry) → IsGround g → IsWellPlaced g x → IsWellPlaced g e → e.layer ≡ x.layer → e.strip ≢ x.strip → ShareNoPoint x.strip e.strip
strips_apart g x e ground a b l n = λ p h k.
    let P : LayerId → Type 0 = λ m. IsWireStrip g m e.strip in
    n (one_wire_strip g x.layer e.strip x.strip p ground (subst P l b.passable) a.passable k h)
