-- The ways on from an entry, door by door.
use Rattle.std.specs.Prelude.{ℕ, ◌≡◌, ◌≢◌, ◌+◌, List, Contains}
use Rattle.geo_rect.specs.declared.ids.NetId.{NetId}
use Rattle.geo_rect.specs.declared.ids.Spot.{Spot}
use Rattle.geo_rect.specs.declared.shapes.Rect.{Rect}
use Rattle.geo_rect.specs.Edges.{IsEdge}
use Rattle.geo_rect.specs.Plane.{IsMeet}
use Rattle.board_model.specs.Labels.{Admits}
use Rattle.plane_core.specs.declared.sides.Side.{Side}
use Rattle.plane_core.specs.declared.strips.Strip.{Strip}
use Rattle.plane_core.specs.Sides.{IsBeside}
use Rattle.route_law.specs.Ground.{IsPassableStrip}
use Rattle.route_law.specs.Moves.{Arrival, IsMovedFront}
use Rattle.strip_moves.specs.declared.departures.Departure.{Departure}

-- b is in the strip u of the layer to which the net leaves, and comes there through the door
pub record IsThroughDoor (d : Departure) (u door : Rect) (b : Arrival) : Type 0 where
  pub to_layer : b.layer ≡ d.layer
  pub to_strip : b.strip ≡ u
  pub way : ℕ
  pub moved : IsMovedFront d.from.front door b.front way
  pub cost : b.cost ≡ d.from.cost + way + d.charge

-- b is in the strip u, and comes there over its edge
pub record IsOverEdge (d : Departure) (u : Rect) (b : Arrival) : Type 0 where
  pub edge : Rect
  pub is_edge : IsEdge d.from.strip u edge
  pub through : IsThroughDoor d u edge b

-- the net may pass the strip, and b comes there over its edge
pub record IsStepInto (d : Departure) (u : Strip) (b : Arrival) : Type 0 where
  pub admits : Admits u.label d.net
  pub over : IsOverEdge d u.area b

-- b is in a strip that the net may pass, with a point one step past the edge of the old one on this side
pub record IsStepOnSide (strips : List Strip) (side : Side) (d : Departure) (b : Arrival) : Type 0 where
  pub passable : IsPassableStrip strips d.net b.strip
  pub beside : IsBeside side d.from.strip b.strip
  pub over : IsOverEdge d b.strip b

-- b is in another strip that the net may pass, and comes there over its edge
pub record IsStepAway (strips : List Strip) (d : Departure) (b : Arrival) : Type 0 where
  pub passable : IsPassableStrip strips d.net b.strip
  pub other_strip : b.strip ≢ d.from.strip
  pub over : IsOverEdge d b.strip b

-- b is in the strip u, and comes there through what the strip has of a part of the old one
pub record IsWithin (d : Departure) (part u : Rect) (b : Arrival) : Type 0 where
  pub common : Rect
  pub is_common : IsMeet part u common
  pub through : IsThroughDoor d u common b

-- the net may pass the strip, and b comes there through what it has of a part of the old one
pub record IsJumpInto (d : Departure) (part : Rect) (u : Strip) (b : Arrival) : Type 0 where
  pub admits : Admits u.label d.net
  pub within : IsWithin d part u.area b

-- b is in a strip that the net may pass, and comes there through what that has of a part of the old one
pub record IsJumpWithin (strips : List Strip) (d : Departure) (part : Rect) (b : Arrival) : Type 0 where
  pub passable : IsPassableStrip strips d.net b.strip
  pub within : IsWithin d part b.strip b

-- the net may pass the via strip w, and b comes through what that has of the old strip
pub record IsJumpThrough (strips : List Strip) (d : Departure) (w : Strip) (b : Arrival) : Type 0 where
  pub admits : Admits w.label d.net
  pub part : Rect
  pub is_part : IsMeet d.from.strip w.area part
  pub jump : IsJumpWithin strips d part b

-- b comes through a via strip that the net may pass
pub record IsJump (via_strips strips : List Strip) (d : Departure) (b : Arrival) : Type 0 where
  pub via_strip : Strip
  pub listed : Contains via_strips via_strip
  pub through : IsJumpThrough strips d via_strip b

-- b starts in the strip u, which the net may pass, with what the strip has of the box
pub record IsStartIn (box : Spot) (net : NetId) (u : Strip) (b : Arrival) : Type 0 where
  pub admits : Admits u.label net
  pub same_layer : b.layer ≡ box.layer
  pub same_strip : b.strip ≡ u.area
  pub common : IsMeet u.area box.area b.front
  pub cost : b.cost ≡ 0

-- b starts in a strip that the net may pass, with what the strip has of the box
pub record IsStartAmong (strips : List Strip) (box : Spot) (net : NetId) (b : Arrival) : Type 0 where
  pub passable : IsPassableStrip strips net b.strip
  pub same_layer : b.layer ≡ box.layer
  pub common : IsMeet b.strip box.area b.front
  pub cost : b.cost ≡ 0
