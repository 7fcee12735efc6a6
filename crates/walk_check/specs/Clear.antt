-- What the net may pass of a plane, of a leg and of a node.
use Rattle.std.specs.Prelude.{◌≡◌, pos, List}
use Rattle.geo_rect.specs.declared.ids.KindId.{KindId}
use Rattle.geo_rect.specs.declared.ids.LayerId.{LayerId}
use Rattle.geo_rect.specs.declared.ids.NetId.{NetId}
use Rattle.geo_rect.specs.declared.ids.Node.{Node}
use Rattle.geo_rect.specs.declared.ids.Spot.{Spot}
use Rattle.geo_rect.specs.declared.shapes.Point.{Point}
use Rattle.geo_rect.specs.declared.shapes.Rect.{Rect}
use Rattle.geo_rect.specs.Plane.{HasPoint}
use Rattle.board_model.specs.declared.made.Leg.{Leg}
use Rattle.board_model.specs.declared.made.Leg.TheVariants.{Wire, Via}
use Rattle.board_model.specs.Labels.{Admits}
use Rattle.board_model.specs.Segments.{segment}
use Rattle.board_model.specs.Shapes.{place_of}
use Rattle.plane_core.specs.declared.strips.Strip.{Strip}
use Rattle.plane_core.specs.Labels.{label_of}
use Rattle.route_law.specs.Ground.{Ground, IsPassableNode, IsPassableVia}

-- the point is one of the region, and its label among the strips admits the net
pub record IsOpenAt (region : Rect) (strips : List Strip) (net : NetId) (p : Point) : Type 0 where
  pub inside : HasPoint region p
  pub admits : Admits (label_of strips p) net

-- each point of the area is open to the net
abbrev pub IsOpenIn : Rect → List Strip → NetId → Rect → Type 0
IsOpenIn region strips net area = (p : Point) → HasPoint area p → IsOpenAt region strips net p

-- the node at the point on the layer
abbrev pub node_at : Point → LayerId → Node
node_at p l = record { x = p.x; y = p.y; layer = l }

-- the net may pass each node of a wire, both ends too
pub record IsClearWire (g : Ground) (v w : Node) : Type 0 where
  pub each : (p : Point) → HasPoint (segment (place_of v) (place_of w) (pos 0)) p → IsPassableNode g (node_at p w.layer)

-- the net may pass the via, and the node in which it ends
pub record IsClearVia (g : Ground) (k : KindId) (w : Node) : Type 0 where
  pub via : IsPassableVia g k (place_of w)
  pub end : IsPassableNode g w

-- the net may pass the leg from v
abbrev pub IsClearLeg : Ground → Node → Leg → Type 0
IsClearLeg g v (Wire w) = IsClearWire g v w
IsClearLeg g v (Via k w) = IsClearVia g k w

-- the box has the node
pub record IsIn (box : Spot) (v : Node) : Type 0 where
  pub same_layer : box.layer ≡ v.layer
  pub has_point : HasPoint box.area (place_of v)
