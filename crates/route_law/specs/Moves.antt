-- How a front moves on from its strip into another one.
use Rattle.std.specs.Prelude.{ℕ, ◌≡◌, ◌≢◌, ◌+◌}
use Rattle.geo_rect.specs.declared.ids.KindId.{KindId}
use Rattle.geo_rect.specs.declared.ids.LayerId.{LayerId}
use Rattle.geo_rect.specs.declared.shapes.Rect.{Rect}
use Rattle.geo_rect.specs.Distance.{IsDistance}
use Rattle.geo_rect.specs.Edges.{IsEdge}
use Rattle.geo_rect.specs.Images.{IsClamped}
use Rattle.geo_rect.specs.Plane.{IsMeet}
use Rattle.board_model.specs.Labels.{IsInSpan}
use Rattle.route_law.specs.declared.certs.Entry.{Entry}
use Rattle.route_law.specs.Ground.{Ground, IsWireStrip, IsViaStrip}

-- a front in a strip of a layer, reached at a cost
pub record Arrival : Type 0 where
  pub layer : LayerId
  pub strip : Rect
  pub front : Rect
  pub cost : ℕ

-- what an entry says, without where it comes from
abbrev pub arrival_of : Entry → Arrival
arrival_of e = record { layer = e.layer; strip = e.strip; front = e.front; cost = e.cost }

-- r has exactly the points that a, b and c share
pub record IsMeetOfThree (a b c r : Rect) : Type 0 where
  pub shared : Rect
  pub of_two : IsMeet a b shared
  pub of_all : IsMeet shared c r

-- what becomes of a front that leaves its strip by a door, some points of the strip or next to it: the
-- front is clamped into the door, which is this way off
pub record IsMovedFront (front door moved : Rect) (way : ℕ) : Type 0 where
  pub clamped : IsClamped front door moved
  pub distance : IsDistance front door way

-- b comes from a across the edge of another strip of the layer
pub record IsEdgeMove (g : Ground) (a b : Arrival) : Type 0 where
  pub same_layer : b.layer ≡ a.layer
  pub passable : IsWireStrip g b.layer b.strip
  pub other_strip : b.strip ≢ a.strip
  pub edge : Rect
  pub is_edge : IsEdge a.strip b.strip edge
  pub way : ℕ
  pub moved : IsMovedFront a.front edge b.front way
  pub cost : b.cost ≡ a.cost + way

-- b comes from a through a via of kind k, where the strips of the two layers and one of the via plane
-- have points in common
pub record IsViaMove (g : Ground) (k : KindId) (a b : Arrival) : Type 0 where
  pub from_span : IsInSpan (g.kind k) a.layer
  pub to_span : IsInSpan (g.kind k) b.layer
  pub other_layer : b.layer ≢ a.layer
  pub passable : IsWireStrip g b.layer b.strip
  pub via_strip : Rect
  pub via_passable : IsViaStrip g k via_strip
  pub common : Rect
  pub is_common : IsMeetOfThree a.strip via_strip b.strip common
  pub way : ℕ
  pub moved : IsMovedFront a.front common b.front way
  pub cost : b.cost ≡ a.cost + way + (g.kind k).charge
