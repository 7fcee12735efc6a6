-- What is open to a net of a plane is what it may pass of the ground; and an area is open where the strips
-- that meet it are.
use Rattle.std.proofs.Common.{pos, ◌≡◌, ◌↔◌, List, sym, subst}
use Rattle.std.specs.Prelude.{Contains}
use Rattle.geo_rect.specs.declared.ids.KindId.{KindId}
use Rattle.geo_rect.specs.declared.ids.Label.{Label}
use Rattle.geo_rect.specs.declared.ids.NetId.{NetId}
use Rattle.geo_rect.specs.declared.ids.Node.{Node}
use Rattle.geo_rect.specs.declared.shapes.Point.{Point}
use Rattle.geo_rect.specs.declared.shapes.Rect.{Rect}
use Rattle.geo_rect.specs.Plane.{HasPoint, LiesIn}
use Rattle.geo_rect.proofs.Parts.{lies_in_points}
use Rattle.board_model.specs.Labels.{Admits}
use Rattle.board_model.specs.Segments.{segment}
use Rattle.board_model.specs.Shapes.{place_of}
use Rattle.plane_core.specs.declared.strips.Strip.{Strip}
use Rattle.plane_core.specs.Choice.{IsChoice, Meets}
use Rattle.plane_core.specs.Labels.{label_of, IsPlane}
use Rattle.plane_core.specs.Strips.{IsHeld}
use Rattle.plane_core.proofs.Local.{strip_labels}
use Rattle.route_law.specs.Ground.{Ground, HasLayer, HasKind, IsPassableNode, IsPassableVia}
use Rattle.walk_check.specs.Clear.{node_at, IsOpenAt, IsOpenIn, IsClearWire}

module _ (region : Rect) (strips : List Strip) (net : NetId) (area : Rect) where
  pub not_inside : (LiesIn area region → ⊥) → IsOpenIn region strips net area → ⊥
  not_inside out f = out ((lies_in_points area region).1 (λ p h. (f p h).inside))

  module _ (plane : IsPlane region strips) (inside : LiesIn area region) (found : List Strip) (choice : IsChoice strips (λ s. Meets s.area area) found) (covered : (p : Point) → HasPoint area p → IsHeld found p) where
    pub open_all : ((s : Strip) → Contains found s → Admits s.label net) → IsOpenIn region strips net area
    open_all f p h =
        let held : IsHeld found p = covered p h in
        let strip : Strip = held.by in
        let e : label_of strips p ≡ strip.label = strip_labels region (label_of strips) strip (plane.each strip (choice.listed strip held.is_listed)) p held.has_point in
        record { inside = (lies_in_points area region).0 inside p h; admits = subst (λ (m : Label). Admits m net) (sym e) (f strip held.is_listed) }

    pub each_open : IsOpenIn region strips net area → (s : Strip) → Contains found s → Admits s.label net
    each_open f s h =
        let meets : Meets s.area area = choice.wanted s h in
        let e : label_of strips meets.at ≡ s.label = strip_labels region (label_of strips) s (plane.each s (choice.listed s h)) meets.at meets.in_first in
        subst (λ (m : Label). Admits m net) e (f meets.at meets.in_second).admits

module _ (g : Ground) (region : Rect) (strips : List Strip) (whole : region ≡ g.region) where
  pub node_open : (v : Node) → strips ≡ g.wire_strips v.layer → HasLayer g v.layer → IsOpenAt region strips g.net (place_of v) ↔ IsPassableNode g v
  node_open v same layer = (
    λ h. record {
      on_layer = layer;
      in_region = subst (λ (r : Rect). HasPoint r (place_of v)) whole h.inside;
      admits = subst (λ (ss : List Strip). Admits (label_of ss (place_of v)) g.net) same h.admits;
    },
    λ h. record {
      inside = subst (λ (r : Rect). HasPoint r (place_of v)) (sym whole) h.in_region;
      admits = subst (λ (ss : List Strip). Admits (label_of ss (place_of v)) g.net) (sym same) h.admits;
    },
  )

  pub via_open : (k : KindId) (p : Point) → strips ≡ g.via_strips k → HasKind g k → IsOpenAt region strips g.net p ↔ IsPassableVia g k p
  via_open k p same kind = (
    λ h. record {
      of_kind = kind;
      in_region = subst (λ (r : Rect). HasPoint r p) whole h.inside;
      admits = subst (λ (ss : List Strip). Admits (label_of ss p) g.net) same h.admits;
    },
    λ h. record {
      inside = subst (λ (r : Rect). HasPoint r p) (sym whole) h.in_region;
      admits = subst (λ (ss : List Strip). Admits (label_of ss p) g.net) (sym same) h.admits;
    },
  )

-- the points of a wire are open on its layer exactly where the wire is clear
module _ (g : Ground) (region : Rect) (strips : List Strip) (v w : Node) (area : Rect) (whole : region ≡ g.region) (same : strips ≡ g.wire_strips w.layer) (layer : HasLayer g w.layer) (line : area ≡ segment (place_of v) (place_of w) (pos 0)) where
  pub wire_open : IsOpenIn region strips g.net area ↔ IsClearWire g v w
  wire_open = (
    λ f. record { each = λ p h. (node_open g region strips whole (node_at p w.layer) same layer).0 (f p (subst (λ (r : Rect). HasPoint r p) (sym line) h)) },
    λ c p h. (node_open g region strips whole (node_at p w.layer) same layer).1 (c.each p (subst (λ (r : Rect). HasPoint r p) line h)),
  )
