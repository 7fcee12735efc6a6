-- Where the net may pass a point, it may pass the strip that has the point, and that strip is one.
use Rattle.std.proofs.Common.{◌≡◌, refl, sym, ap, subst, ◌⊎◌, inl, inr, Bool, true, false, List}
use Rattle.geo_rect.specs.declared.ids.KindId.{KindId}
use Rattle.geo_rect.specs.declared.ids.Label.{Label}
use Rattle.geo_rect.specs.declared.ids.LayerId.{LayerId}
use Rattle.geo_rect.specs.declared.ids.NetId.{NetId}
use Rattle.geo_rect.specs.declared.ids.Node.{Node}
use Rattle.geo_rect.specs.declared.shapes.Point.{Point}
use Rattle.geo_rect.specs.declared.shapes.Rect.{Rect}
use Rattle.geo_rect.specs.Plane.{HasPoint}
use Rattle.board_model.specs.Labels.{Admits}
use Rattle.board_model.specs.Shapes.{place_of}
use Rattle.plane_core.specs.declared.strips.Strip.{Strip}
use Rattle.plane_core.specs.Labels.{has_point, label_of, IsPlane}
use Rattle.plane_core.specs.Strips.{IsHeld}
use Rattle.plane_core.proofs.Alike.{strip_inside, strips_meet}
use Rattle.plane_core.proofs.Labelled.{has_point_tells}
use Rattle.plane_core.proofs.Local.{strip_labels}
use Rattle.route_law.specs.Ground.{Ground, IsGround, IsPassableNode, IsPassableVia, IsPassableStrip, IsWireStrip, IsViaStrip}

-- a strip that the net may pass and that has the point
pub record IsPassedAt (strips : List Strip) (net : NetId) (p : Point) : Type 0 where
  pub area : Rect
  pub strip : IsPassableStrip strips net area
  pub has_point : HasPoint area p

passed_at : (region : Rect) (strips : List Strip) (net : NetId) (p : Point) → IsPlane region strips → HasPoint region p → Admits (label_of strips p) net → IsPassedAt strips net p
passed_at region strips net p plane inside a =
    let h : IsHeld strips p = plane.covered p inside in
    let e : label_of strips p ≡ h.by.label = strip_labels region (label_of strips) h.by (plane.each h.by h.is_listed) p h.has_point in
    record {
      area = h.by.area;
      strip = record { label = h.by.label; listed = h.is_listed; admits = subst (λ (m : Label). Admits m net) e a };
      has_point = h.has_point;
    }

pub wire_at : (g : Ground) (v : Node) → IsGround g → IsPassableNode g v → IsPassedAt (g.wire_strips v.layer) g.net (place_of v)
wire_at g v ground p = passed_at g.region (g.wire_strips v.layer) g.net (place_of v) (ground.wires v.layer p.on_layer) p.in_region p.admits

pub via_at : (g : Ground) (k : KindId) (p : Point) → IsGround g → IsPassableVia g k p → IsPassedAt (g.via_strips k) g.net p
via_at g k p ground h = passed_at g.region (g.via_strips k) g.net p (ground.vias k h.of_kind) h.in_region h.admits

-- the node on a layer at a place
abbrev pub node_at : LayerId → Point → Node
node_at l p = record { x = p.x; y = p.y; layer = l }

-- what holds of each point of a strip that the net may pass
record IsAdmitted (region : Rect) (strips : List Strip) (net : NetId) (p : Point) : Type 0 where
  in_region : HasPoint region p
  admits : Admits (label_of strips p) net

strip_admits : (region : Rect) (strips : List Strip) (net : NetId) (t : Rect) (p : Point) → IsPlane region strips → IsPassableStrip strips net t → HasPoint t p → IsAdmitted region strips net p
strip_admits region strips net t p plane s h =
    let a : Strip = record { area = t; label = s.label } in
    let e : label_of strips p ≡ a.label = strip_labels region (label_of strips) a (plane.each a s.listed) p h in
    record {
      in_region = strip_inside region (label_of strips) a p (plane.each a s.listed) h;
      admits = subst (λ (m : Label). Admits m net) (sym e) s.admits;
    }

-- the net may pass each node of a strip that it may pass
pub strip_passable : (g : Ground) (l : LayerId) (t : Rect) (p : Point) → IsGround g → IsWireStrip g l t → HasPoint t p → IsPassableNode g (node_at l p)
strip_passable g l t p ground s h =
    let a = strip_admits g.region (g.wire_strips l) g.net t p (ground.wires l s.on_layer) s.strip h in
    record { on_layer = s.on_layer; in_region = a.in_region; admits = a.admits }

-- and likewise for vias
pub via_strip_passable : (g : Ground) (k : KindId) (w : Rect) (p : Point) → IsGround g → IsViaStrip g k w → HasPoint w p → IsPassableVia g k p
via_strip_passable g k w p ground s h =
    let a = strip_admits g.region (g.via_strips k) g.net w p (ground.vias k s.of_kind) s.strip h in
    record { of_kind = s.of_kind; in_region = a.in_region; admits = a.admits }

-- two strips of a layer that share a point are one
pub one_wire_strip : (g : Ground) (l : LayerId) (t u : Rect) (p : Point) → IsGround g → IsWireStrip g l t → IsWireStrip g l u → HasPoint t p → HasPoint u p → t ≡ u
one_wire_strip g l t u p ground s r hs hr =
    let plane : IsPlane g.region (g.wire_strips l) = ground.wires l s.on_layer in
    let a : Strip = record { area = t; label = s.strip.label } in
    let b : Strip = record { area = u; label = r.strip.label } in
    let e : a ≡ b = strips_meet g.region (label_of (g.wire_strips l)) a b p (plane.each a s.strip.listed) (plane.each b r.strip.listed) hs hr in
    ap (λ (x : Strip). x.area) e

point_by : (r : Rect) (p : Point) (b : Bool) → has_point r p ≡ b → HasPoint r p ⊎ (HasPoint r p → ⊥)
point_by r p true e = inl ((has_point_tells r p).0 e)
point_by r p false e = inr (λ h. let k : has_point r p ≡ true = (has_point_tells r p).1 h in cc)

-- a rectangle has a point or not
pub point_cases : (r : Rect) (p : Point) → HasPoint r p ⊎ (HasPoint r p → ⊥)
point_cases r p = point_by r p (has_point r p) refl
