-- The ground on which one net walks, and what of it the net may pass.
use Rattle.std.specs.Prelude.{ℕ, ◌<◌, List, Contains}
use Rattle.geo_rect.specs.declared.ids.KindId.{KindId}
use Rattle.geo_rect.specs.declared.ids.Label.{Label}
use Rattle.geo_rect.specs.declared.ids.LayerId.{LayerId}
use Rattle.geo_rect.specs.declared.ids.NetId.{NetId}
use Rattle.geo_rect.specs.declared.ids.Node.{Node}
use Rattle.geo_rect.specs.declared.shapes.Point.{Point}
use Rattle.geo_rect.specs.declared.shapes.Rect.{Rect}
use Rattle.geo_rect.specs.Plane.{HasPoint}
use Rattle.board_parts.specs.declared.parts.ViaKind.{ViaKind}
use Rattle.board_model.specs.Labels.{Admits}
use Rattle.board_model.specs.Shapes.{place_of}
use Rattle.plane_core.specs.declared.strips.Strip.{Strip}
use Rattle.plane_core.specs.Labels.{label_of, IsPlane}

-- the points of the board, the strips of each layer's wire plane, each kind of via with the strips
-- of its via plane, and the net that walks
pub record Ground : Type 0 where
  pub region : Rect
  pub layers : ℕ
  pub wire_strips : LayerId → List Strip
  pub kinds : ℕ
  pub kind : KindId → ViaKind
  pub via_strips : KindId → List Strip
  pub net : NetId

-- the layer is one of the ground's
abbrev pub HasLayer : Ground → LayerId → Type 0
HasLayer g l = l.0 < g.layers

-- the kind of via is one of the ground's
abbrev pub HasKind : Ground → KindId → Type 0
HasKind g k = k.0 < g.kinds

-- the strips of each layer and of each kind are those of the labels that they give to the region
pub record IsGround (g : Ground) : Type 0 where
  pub wires : (l : LayerId) → HasLayer g l → IsPlane g.region (g.wire_strips l)
  pub vias : (k : KindId) → HasKind g k → IsPlane g.region (g.via_strips k)

-- the net may pass the node: its layer and place are of the ground, and the label there admits the net
pub record IsPassableNode (g : Ground) (v : Node) : Type 0 where
  pub on_layer : HasLayer g v.layer
  pub in_region : HasPoint g.region (place_of v)
  pub admits : Admits (label_of (g.wire_strips v.layer) (place_of v)) g.net

-- the net may pass from layer to layer at p, by a via of kind k
pub record IsPassableVia (g : Ground) (k : KindId) (p : Point) : Type 0 where
  pub of_kind : HasKind g k
  pub in_region : HasPoint g.region p
  pub admits : Admits (label_of (g.via_strips k) p) g.net

-- the area is that of one of the strips, whose label admits the net
pub record IsPassableStrip (strips : List Strip) (net : NetId) (area : Rect) : Type 0 where
  pub label : Label
  pub listed : Contains strips (record { area = area; label = label })
  pub admits : Admits label net

-- t is a strip of the layer that the net may pass
pub record IsWireStrip (g : Ground) (l : LayerId) (t : Rect) : Type 0 where
  pub on_layer : HasLayer g l
  pub strip : IsPassableStrip (g.wire_strips l) g.net t

-- w is a strip of the via plane of kind k that the net may pass
pub record IsViaStrip (g : Ground) (k : KindId) (w : Rect) : Type 0 where
  pub of_kind : HasKind g k
  pub strip : IsPassableStrip (g.via_strips k) g.net w
