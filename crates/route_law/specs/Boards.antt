-- The ground that a board with some shapes is to one of its nets.
use Rattle.std.specs.Prelude.{◌≡◌, ◌↔◌, List, length}
use Rattle.geo_rect.specs.declared.ids.KindId.{KindId}
use Rattle.geo_rect.specs.declared.ids.LayerId.{LayerId}
use Rattle.geo_rect.specs.declared.ids.NetId.{NetId}
use Rattle.geo_rect.specs.declared.shapes.Point.{Point}
use Rattle.geo_rect.specs.Plane.{HasPoint, lone}
use Rattle.board_parts.specs.declared.parts.BoardParts.{BoardParts}
use Rattle.board_model.specs.declared.shapes.Shape.{Shape}
use Rattle.board_model.specs.Labels.{wire_plane, via_plane, label_among}
use Rattle.board_parts.specs.Lookup.{kind_of, class_of}
use Rattle.board_parts.specs.Rules.{IsOnBoard}
use Rattle.plane_core.specs.Labels.{label_of}
use Rattle.route_law.specs.Ground.{Ground, HasLayer, HasKind, IsGround}

-- the ground has the points, the layers and the kinds of the board, and its strips give each point the
-- label that it has for the net's class among the shapes
pub record IsGroundOf (b : BoardParts) (shapes : List Shape) (n : NetId) (g : Ground) : Type 0 where
  pub proper : IsGround g
  pub net : g.net ≡ n
  pub points : (p : Point) → HasPoint g.region p ↔ IsOnBoard b.width b.height (lone p)
  pub layers : g.layers ≡ length b.layers
  pub wires : (l : LayerId) (p : Point) → HasLayer g l → HasPoint g.region p → label_of (g.wire_strips l) p ≡ label_among b (wire_plane b l (class_of b n)) shapes p
  pub kinds : g.kinds ≡ length b.kinds
  pub kind : (k : KindId) → HasKind g k → g.kind k ≡ kind_of b k
  pub vias : (k : KindId) (p : Point) → HasKind g k → HasPoint g.region p → label_of (g.via_strips k) p ≡ label_among b (via_plane b k (class_of b n)) shapes p
