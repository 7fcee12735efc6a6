-- What a net may pass over its ground is what it may pass on the board.
use Rattle.std.proofs.Common.{ℤ, ◌≡◌, ◌<◌, ◌↔◌, sym, subst, List, length, arith}
use Rattle.std.proofs.lemmas.Int.{ints}
use Rattle.geo_rect.specs.declared.ids.KindId.{KindId}
use Rattle.geo_rect.specs.declared.ids.Label.{Label}
use Rattle.geo_rect.specs.declared.ids.NetId.{NetId}
use Rattle.geo_rect.specs.declared.ids.Node.{Node}
use Rattle.geo_rect.specs.declared.shapes.Point.{Point}
use Rattle.geo_rect.specs.Plane.{HasPoint, square, lone}
use Rattle.board_parts.specs.declared.parts.BoardParts.{BoardParts}
use Rattle.board_model.specs.declared.shapes.Shape.{Shape}
use Rattle.board_model.specs.Labels.{PlaneRule, wire_plane, via_plane, label_among, Admits, IsPassable, IsViaPassable}
use Rattle.board_parts.specs.Lookup.{class_of}
use Rattle.board_parts.specs.Rules.{IsOnBoard}
use Rattle.board_model.specs.Shapes.{place_of}
use Rattle.board_model.proofs.LabelLaws.{admits_is_left}
use Rattle.plane_core.specs.Labels.{label_of}
use Rattle.route_law.specs.Boards.{IsGroundOf}
use Rattle.route_law.specs.Ground.{Ground, HasLayer, HasKind, IsPassableNode, IsPassableVia}

-- where the square round a point lies on the board, so does the point
middle_on_board : (w h half : ℤ) (p : Point) → IsOnBoard w h (square p half) → IsOnBoard w h (lone p)
middle_on_board w h half p s =
    let a = s.left in
    let b = s.below in
    let c = s.right in
    let d = s.above in
    record { left = omega (arith, ints); below = omega (arith, ints); right = omega (arith, ints); above = omega (arith, ints) }

admitted_on_board : (b : BoardParts) (r : PlaneRule) (shapes : List Shape) (n : NetId) (p : Point) → Admits (label_among b r shapes p) n → IsOnBoard b.width b.height (lone p)
admitted_on_board b r shapes n p a = middle_on_board b.width b.height r.widest p ((admits_is_left b r p shapes n).0 a).allowed.fits

same_admits : (x y : Label) (m n : NetId) → x ≡ y → m ≡ n → Admits x m → Admits y n
same_admits x y m n e f a =
    let P : Label → Type 0 = λ z. Admits z m in
    let Q : NetId → Type 0 = λ z. Admits y z in
    subst Q f (subst P e a)

module _ (b : BoardParts) (shapes : List Shape) (n : NetId) (g : Ground) where
  pub passable_nodes : (v : Node) → IsGroundOf b shapes n g → IsPassableNode g v ↔ ((v.layer.0 < length b.layers) × IsPassable b shapes n v)
  passable_nodes v o = (
    λ h. (omega (arith, h.on_layer, o.layers), same_admits (label_of (g.wire_strips v.layer) (place_of v)) (label_among b (wire_plane b v.layer (class_of b n)) shapes (place_of v)) g.net n (o.wires v.layer (place_of v) h.on_layer h.in_region) o.net h.admits),
    λ h.
        let l : HasLayer g v.layer = omega (arith, h.0, o.layers) in
        let i : HasPoint g.region (place_of v) = (o.points (place_of v)).1 (admitted_on_board b (wire_plane b v.layer (class_of b n)) shapes n (place_of v) h.1) in
        record {
          on_layer = l;
          in_region = i;
          admits = same_admits (label_among b (wire_plane b v.layer (class_of b n)) shapes (place_of v)) (label_of (g.wire_strips v.layer) (place_of v)) n g.net (sym (o.wires v.layer (place_of v) l i)) (sym o.net) h.1;
        },
  )

  pub passable_vias : (k : KindId) (p : Point) → IsGroundOf b shapes n g → IsPassableVia g k p ↔ ((k.0 < length b.kinds) × IsViaPassable b shapes n k p)
  passable_vias k p o = (
    λ h. (omega (arith, h.of_kind, o.kinds), same_admits (label_of (g.via_strips k) p) (label_among b (via_plane b k (class_of b n)) shapes p) g.net n (o.vias k p h.of_kind h.in_region) o.net h.admits),
    λ h.
        let l : HasKind g k = omega (arith, h.0, o.kinds) in
        let i : HasPoint g.region p = (o.points p).1 (admitted_on_board b (via_plane b k (class_of b n)) shapes n p h.1) in
        record {
          of_kind = l;
          in_region = i;
          admits = same_admits (label_among b (via_plane b k (class_of b n)) shapes p) (label_of (g.via_strips k) p) n g.net (sym (o.vias k p l i)) (sym o.net) h.1;
        },
  )
