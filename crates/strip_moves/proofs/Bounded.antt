-- What lies on the board has coordinates that are not large.
use Rattle.std.proofs.Common.{◌<◌, List, All, length, arith}
use Rattle.std.proofs.lemmas.Int.{ints}
use Rattle.std.proofs.lemmas.List.Elements.{All-weaker}
use Rattle.geo_rect.specs.declared.ids.LayerId.{LayerId}
use Rattle.geo_rect.specs.declared.ids.NetId.{NetId}
use Rattle.geo_rect.specs.declared.ids.Spot.{Spot}
use Rattle.geo_rect.specs.declared.shapes.Point.{Point}
use Rattle.geo_rect.specs.declared.shapes.Rect.{Rect}
use Rattle.geo_rect.specs.Plane.{HasPoint, IsBounded}
use Rattle.geo_rect.proofs.Parts.{lies_in_from, bounded_within}
use Rattle.board_parts.specs.declared.parts.BoardParts.{BoardParts}
use Rattle.board_parts.specs.Rules.{IsBoard}
use Rattle.plane_set.specs.Standing.{PlaneTable, HasPlanes}
use Rattle.route_law.specs.declared.certs.Entry.{Entry}
use Rattle.route_law.specs.Ground.{IsGround, IsWireStrip}
use Rattle.route_law.specs.Right.{IsWellPlaced}
use Rattle.strip_moves.specs.Boxes.{IsBoardBox, HasBoundedArea}
use Rattle.strip_moves.specs.Grounds.{board_area, ground_of}
use Rattle.strip_moves.proofs.Boards.{on_board_inside}
use Rattle.strip_moves.proofs.Grounds.{is_ground, wire_inside}

area_bounded : (b : BoardParts) → IsBoard b → IsBounded (board_area b)
area_bounded b h =
    let w = h.width in
    let u = h.height in
    record {
      across = record { from = omega (arith, ints); to = omega (arith, ints, w.from, w.to) };
      up = record { from = omega (arith, ints); to = omega (arith, ints, u.from, u.to) };
    }

box_bounded : (b : BoardParts) → IsBoard b → (box : Spot) → IsBoardBox b box → HasBoundedArea box
box_bounded b h box on = bounded_within box.area (board_area b) (on_board_inside b box.area on.area) (area_bounded b h)

pub boxes_bounded : (b : BoardParts) → IsBoard b → (boxes : List Spot) → All (IsBoardBox b) boxes → All HasBoundedArea boxes
boxes_bounded b h boxes on = All-weaker (IsBoardBox b) HasBoundedArea (box_bounded b h) boxes on

-- what has points of a bounded rectangle alone is bounded
pub part_bounded : (a b : Rect) → ((p : Point) → HasPoint a p → HasPoint b p) → IsBounded b → IsBounded a
part_bounded a b f h = bounded_within a b (lies_in_from a b f) h

module _ (b : BoardParts) (set : PlaneTable) (n : NetId) (board : IsBoard b) (planes : HasPlanes b set) (known : n.0 < length b.net_names) where
  pub the_ground : IsGround (ground_of b set n)
  the_ground = is_ground b board n known set planes

  pub wire_strip_bounded : (l : LayerId) (t : Rect) → IsWireStrip (ground_of b set n) l t → IsBounded t
  wire_strip_bounded l t s = bounded_within t (board_area b) (wire_inside b board n known set planes l t s) (area_bounded b board)

  pub strip_bounded : (e : Entry) → IsWellPlaced (ground_of b set n) e → IsBounded e.strip
  strip_bounded e p = wire_strip_bounded e.layer e.strip p.passable

  pub front_bounded : (e : Entry) → IsWellPlaced (ground_of b set n) e → IsBounded e.front
  front_bounded e p = bounded_within e.front e.strip p.holds (strip_bounded e p)
