-- Where open points lie: on the board, in a strip that the net may pass.
use Rattle.std.proofs.Common.{◌≡◌, ◌<◌, ℤ, List, length, sym, subst, arith}
use Rattle.std.specs.Prelude.{Contains}
use Rattle.std.proofs.lemmas.Int.{ints}
use Rattle.geo_rect.specs.declared.ids.Label.{Label}
use Rattle.geo_rect.specs.declared.ids.LayerId.{LayerId}
use Rattle.geo_rect.specs.declared.ids.NetId.{NetId}
use Rattle.geo_rect.specs.declared.shapes.Point.{Point}
use Rattle.geo_rect.specs.declared.shapes.Rect.{Rect}
use Rattle.geo_rect.specs.Plane.{HasPoint, IsBounded, square, lone}
use Rattle.board_parts.specs.declared.parts.BoardParts.{BoardParts}
use Rattle.board_parts.specs.Lookup.{class_of}
use Rattle.board_parts.specs.Rules.{IsBoard, IsOnBoard}
use Rattle.board_model.specs.declared.shapes.Shape.{Shape}
use Rattle.board_model.specs.Labels.{Admits, IsLeftTo, label_among, wire_plane}
use Rattle.board_model.proofs.LabelLaws.{admits_is_left}
use Rattle.plane_core.specs.declared.strips.Strip.{Strip}
use Rattle.plane_core.specs.Labels.{label_of}
use Rattle.plane_core.proofs.Labelled.{strips_agree}
use Rattle.plane_core.proofs.Local.{strip_labels}
use Rattle.plane_set.specs.Standing.{PlaneTable, StandsFor}
use Rattle.route_law.specs.Boards.{IsGroundOf}
use Rattle.route_law.specs.Ground.{Ground}
use Rattle.strip_moves.specs.Grounds.{ground_of}
use Rattle.strip_moves.proofs.OfShapes.{ground_of_shapes}
use Rattle.zone_fill.specs.Pour.{IsOpen, AreStripsAmong}

-- where the square round a point lies on the board, so does the point
middle_on_board : (w h half : ℤ) (p : Point) → IsOnBoard w h (square p half) → IsOnBoard w h (lone p)
middle_on_board w h half p s =
    let a = s.left in
    let b = s.below in
    let c = s.right in
    let d = s.above in
    record { left = omega (arith, ints); below = omega (arith, ints); right = omega (arith, ints); above = omega (arith, ints) }

-- a strip that has the point, and that the net may pass
pub record IsHeldOpen (n : NetId) (strips : List Strip) (p : Point) : Type 0 where
  pub strip : Strip
  pub listed : Contains strips strip
  pub has_point : HasPoint strip.area p
  pub admits : Admits strip.label n

module _ (b : BoardParts) (shapes : List Shape) (n : NetId) (l : LayerId) (zone : Rect) where
  -- an open point is left to the net
  pub open_left : (p : Point) → IsOpen b shapes n l zone p → IsLeftTo b (wire_plane b l (class_of b n)) shapes p n
  open_left p h = (admits_is_left b (wire_plane b l (class_of b n)) p shapes n).0 h.passable

  module _ (strips : List Strip) (are : AreStripsAmong b shapes l (class_of b n) strips) where
    label_there : (s : Strip) (p : Point) → Contains strips s → HasPoint s.area p → label_among b (wire_plane b l (class_of b n)) shapes p ≡ s.label
    label_there s p c h = strip_labels are.area (label_among b (wire_plane b l (class_of b n)) shapes) s (are.strips_of_labels.each s c) p h

    -- the strip that has an open point is one that the net may pass
    pub strip_admits : (s : Strip) (p : Point) → Contains strips s → HasPoint s.area p → IsOpen b shapes n l zone p → Admits s.label n
    strip_admits s p c h o = subst (λ (m : Label). Admits m n) (label_there s p c h) o.passable

    -- each point of the zone in such a strip is open
    pub open_there : (s : Strip) (p : Point) → Contains strips s → Admits s.label n → HasPoint s.area p → HasPoint zone p → IsOpen b shapes n l zone p
    open_there s p c a h z = record { in_zone = z; passable = subst (λ (m : Label). Admits m n) (sym (label_there s p c h)) a }

    -- each open point lies in such a strip
    pub open_held : (p : Point) → IsOpen b shapes n l zone p → IsHeldOpen n strips p
    open_held p o =
        let on = middle_on_board b.width b.height (wire_plane b l (class_of b n)).widest p (open_left p o).allowed.fits in
        let h = are.strips_of_labels.covered p ((are.points p).1 on) in
        record { strip = h.by; listed = h.is_listed; has_point = h.has_point; admits = strip_admits h.by p h.is_listed h.has_point o }

-- the strips of the plane of the net's wires are those of the labels among the shapes that the planes stand for
pub wire_strips_among : (b : BoardParts) (shapes : List Shape) (n : NetId) (l : LayerId) (set : PlaneTable) → IsBoard b → n.0 < length b.net_names → l.0 < length b.layers → StandsFor b shapes set → AreStripsAmong b shapes l (class_of b n) ((ground_of b set n).wire_strips l)
wire_strips_among b shapes n l set board known on_layer stands =
    let g : Ground = ground_of b set n in
    let of : IsGroundOf b shapes n g = ground_of_shapes b board n known shapes set stands in
    record {
      area = g.region;
      points = of.points;
      strips_of_labels = strips_agree g.region (label_of (g.wire_strips l)) (label_among b (wire_plane b l (class_of b n)) shapes) (g.wire_strips l)
          (λ p i. sym (of.wires l p on_layer i)) (of.proper.wires l on_layer);
    }

-- an area on the board is bounded
pub zone_bounded : (b : BoardParts) (r : Rect) → IsBoard b → IsOnBoard b.width b.height r → IsBounded r
zone_bounded b r board on =
    let w = board.width.to in
    let h = board.height.to in
    let a = on.left in
    let c = on.below in
    let d = on.right in
    let e = on.above in
    let o = r.x_ordered in
    let q = r.y_ordered in
    record {
      across = record { from = omega (arith, ints); to = omega (arith, ints) };
      up = record { from = omega (arith, ints); to = omega (arith, ints) };
    }
