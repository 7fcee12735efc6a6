-- The planes of a state are a ground for each net, on which it may pass what the shapes leave to it.
use Rattle.std.proofs.Common.{◌≡◌, ◌<◌, ℕ, ℤ, pos, List, [], Some, ◌↔◌, inl, inr, length, get_or, sym, ◌∙◌, ap, subst, arith}
use Rattle.std.specs.Prelude.{slice_get, unsigned_abs}
use Rattle.std.proofs.lemmas.Int.{ints}
use Rattle.std.proofs.lemmas.Option.{slice_get-get_or, slice_get_cases}
use Rattle.std.proofs.lemmas.List.Elements.{All-get_or}
use Rattle.geo_rect.specs.declared.ids.ClassId.{ClassId}
use Rattle.geo_rect.specs.declared.ids.KindId.{KindId}
use Rattle.geo_rect.specs.declared.ids.Label.{Label}
use Rattle.geo_rect.specs.declared.ids.LayerId.{LayerId}
use Rattle.geo_rect.specs.declared.ids.NetId.{NetId}
use Rattle.geo_rect.specs.declared.ids.Node.{Node}
use Rattle.geo_rect.specs.declared.shapes.Point.{Point}
use Rattle.geo_rect.specs.declared.shapes.Rect.{Rect}
use Rattle.geo_rect.specs.Plane.{columns, rows, HasPoint, LiesIn}
use Rattle.geo_rect.proofs.Parts.{lies_in_from}
use Rattle.geo_rect.proofs.Same.{same_interval, same_rect}
use Rattle.board_parts.specs.declared.parts.BoardParts.{BoardParts}
use Rattle.board_model.specs.declared.shapes.Shape.{Shape}
use Rattle.board_model.specs.Labels.{Admits, IsPassable, IsViaPassable, label_among}
use Rattle.board_parts.specs.Lookup.{class_of}
use Rattle.board_parts.specs.Rules.{IsBoard, IsSide}
use Rattle.board_model.specs.Shapes.{place_of}
use Rattle.plane_core.specs.declared.strips.Strip.{Strip}
use Rattle.plane_core.specs.Labels.{label_of, IsPlane}
use Rattle.plane_core.proofs.Alike.{strip_inside}
use Rattle.plane_set.specs.declared.families.Family.{Family}
use Rattle.plane_set.specs.declared.families.Family.TheVariants.{Wires, Vias}
use Rattle.plane_set.specs.Drawings.{Drawing, IsBoardArea, IsBoardPlane, Shows}
use Rattle.plane_set.specs.Families.{AreRows, AreBoardRows, HaveAllClasses, rule_in}
use Rattle.plane_set.specs.Standing.{PlaneTable, HasPlanes, StandsFor}
use Rattle.route_law.specs.Ground.{IsGround, IsPassableNode, IsPassableVia, IsWireStrip}
use Rattle.strip_moves.specs.Grounds.{board_area, ground_of, strips_at, strips_in, upto, IsBoardNode}

-- there is a plane of class c in the row of number n, and it is one of the board
pub record IsPlaneAt (b : BoardParts) (rows : List (List Drawing)) (n : ℕ) (c : ClassId) : Type 0 where
  pub plane : Drawing
  pub there : slice_get (get_or rows n []) c.0 ≡ Some plane
  pub on_board : IsBoardPlane b plane

pub plane_found : (b : BoardParts) (rows : List (List Drawing)) (n : ℕ) (c : ClassId) → HaveAllClasses (λ (row : List Drawing). row) b rows → AreBoardRows (λ (row : List Drawing). row) (λ (d : Drawing). d) b rows → n < length rows → c.0 < length b.classes → IsPlaneAt b rows n c
plane_found b rows n c classes board l k =
    let row : List Drawing = get_or rows n [] in
    let size : length row ≡ length b.classes = All-get_or (λ (r : List Drawing). length r ≡ length b.classes) rows n [] l classes in
    elim ((slice_get_cases row c.0).1) [
      | inl h ↦ record { plane = h.0; there = h.2; on_board = board n row (slice_get-get_or rows n [] l) c.0 h.0 h.2 }
      | inr h ↦ (let past = h.0 in absurd (omega arith))
    ]

-- the class of a net is one of the board's
pub class_known : (b : BoardParts) (n : NetId) → IsBoard b → n.0 < length b.net_names → (class_of b n).0 < length b.classes
class_known b n board h =
    let size = board.net_classes in
    let inside : n.0 < length b.net_classes = omega arith in
    All-get_or (λ (c : ClassId). c.0 < length b.classes) b.net_classes n.0 (record { 0 = 0 }) inside board.each_class

side_whole : (n : ℤ) → IsSide n → n ≡ pos (unsigned_abs n)
side_whole n h = let f = h.from in omega (arith, ints)

-- the points of the board are those of its area
pub area_same : (b : BoardParts) (r : Rect) → IsBoard b → IsBoardArea b r → r ≡ board_area b
area_same b r board a =
    same_rect r (board_area b)
    (same_interval (columns r) (upto b.width) a.left (a.right ∙ side_whole b.width board.width))
    (same_interval (rows r) (upto b.height) a.below (a.above ∙ side_whole b.height board.height))

-- the plane at a place is one of the board
pub wire_board : (b : BoardParts) (set : PlaneTable) → HasPlanes b set → (n m : ℕ) (d : Drawing) → n < length b.layers → slice_get (get_or set.wires n []) m ≡ Some d → IsBoardPlane b d
wire_board b set h n m d l e = let size = h.layers in h.wire_planes n (get_or set.wires n []) (slice_get-get_or set.wires n [] (omega arith)) m d e

pub via_board : (b : BoardParts) (set : PlaneTable) → HasPlanes b set → (n m : ℕ) (d : Drawing) → n < length b.kinds → slice_get (get_or set.vias n []) m ≡ Some d → IsBoardPlane b d
via_board b set h n m d l e = let size = h.kinds in h.via_planes n (get_or set.vias n []) (slice_get-get_or set.vias n [] (omega arith)) m d e

module _ (b : BoardParts) (board : IsBoard b) where
  plane_at : (rows : List (List Drawing)) (n : ℕ) (c : ClassId) → IsPlaneAt b rows n c → IsPlane (board_area b) (strips_at rows n c)
  plane_at rows n c h =
      let is : strips_at rows n c ≡ h.plane.strips = ap strips_in h.there in
      let region : h.plane.region ≡ board_area b = area_same b h.plane.region board h.on_board.region in
      let P : Rect → Type 0 = λ r. IsPlane r h.plane.strips in
      let Q : List Strip → Type 0 = λ ss. IsPlane (board_area b) ss in
      subst Q (sym is) (subst P region h.on_board.canonical)

  module _ (n : NetId) (known : n.0 < length b.net_names) where
    pub wire_plane_found : (set : PlaneTable) → HasPlanes b set → (l : ℕ) → l < length b.layers → IsPlaneAt b set.wires l (class_of b n)
    wire_plane_found set h l k =
        let size = h.layers in
        plane_found b set.wires l (class_of b n) h.wire_classes h.wire_planes (omega arith) (class_known b n board known)

    pub via_plane_found : (set : PlaneTable) → HasPlanes b set → (k : ℕ) → k < length b.kinds → IsPlaneAt b set.vias k (class_of b n)
    via_plane_found set h l k =
        let size = h.kinds in
        plane_found b set.vias l (class_of b n) h.via_classes h.via_planes (omega arith) (class_known b n board known)

    pub is_ground : (set : PlaneTable) → HasPlanes b set → IsGround (ground_of b set n)
    is_ground set h = record {
      wires = λ l k. plane_at set.wires l.0 (class_of b n) (wire_plane_found set h l.0 k);
      vias = λ k i. plane_at set.vias k.0 (class_of b n) (via_plane_found set h k.0 i);
    }

    -- the label of a point of the board is what the shapes make it
    pub label_there : (f : Family) (shapes : List Shape) (table : List (List Drawing)) (r : ℕ) → AreRows (λ (row : List Drawing). row) (λ (d : Drawing). d) b f shapes table → r < length table → IsPlaneAt b table r (class_of b n) → (p : Point) → HasPoint (board_area b) p → label_of (strips_at table r (class_of b n)) p ≡ label_among b (rule_in b f r (class_of b n)) shapes p
    label_there f shapes table r h l at p inside =
        let c : ClassId = class_of b n in
        let is : strips_at table r c ≡ at.plane.strips = ap strips_in at.there in
        let shown : Shows b (rule_in b f r c) shapes at.plane = h r (get_or table r []) (slice_get-get_or table r [] l) c.0 at.plane at.there in
        let region : at.plane.region ≡ board_area b = area_same b at.plane.region board shown.region in
        ap (λ (ss : List Strip). label_of ss p) is ∙ shown.labels p (subst (λ (q : Rect). HasPoint q p) (sym region) inside)

    pub passes_node : (shapes : List Shape) (set : PlaneTable) (v : Node) → StandsFor b shapes set → IsBoardNode b v → IsPassableNode (ground_of b set n) v ↔ IsPassable b shapes n v
    passes_node shapes set v h on =
        let size = h.planes.layers in
        let layer = on.layer in
        let e = label_there Wires shapes set.wires v.layer.0 h.wires (omega arith) (wire_plane_found set h.planes v.layer.0 on.layer) (place_of v) on.place in (
          λ q. subst (λ (m : Label). Admits m n) e q.admits,
          λ q. record { on_layer = on.layer; in_region = on.place; admits = subst (λ (m : Label). Admits m n) (sym e) q },
        )

    pub passes_via : (shapes : List Shape) (set : PlaneTable) (k : KindId) (p : Point) → StandsFor b shapes set → k.0 < length b.kinds → HasPoint (board_area b) p → IsPassableVia (ground_of b set n) k p ↔ IsViaPassable b shapes n k p
    passes_via shapes set k p h of_kind on =
        let size = h.planes.kinds in
        let e = label_there Vias shapes set.vias k.0 h.vias (omega arith) (via_plane_found set h.planes k.0 of_kind) p on in (
          λ q. subst (λ (m : Label). Admits m n) e q.admits,
          λ q. record { of_kind = of_kind; in_region = on; admits = subst (λ (m : Label). Admits m n) (sym e) q },
        )

module _ (b : BoardParts) (board : IsBoard b) (n : NetId) (known : n.0 < length b.net_names) (set : PlaneTable) (h : HasPlanes b set) (l : LayerId) where
  wires : l.0 < length b.layers → IsPlane (board_area b) (strips_at set.wires l.0 (class_of b n))
  wires on_layer = (is_ground b board n known set h).wires l on_layer

  -- what has the region and the strips of a layer of the ground is a plane
  pub wires_plane : l.0 < length b.layers → (region : Rect) (strips : List Strip) → region ≡ board_area b → strips ≡ strips_at set.wires l.0 (class_of b n) → IsPlane region strips
  wires_plane on_layer region strips er es =
      let P : Rect → Type 0 = λ r. IsPlane r strips in
      let Q : List Strip → Type 0 = λ ss. IsPlane (board_area b) ss in
      subst P (sym er) (subst Q (sym es) (wires on_layer))

  -- a strip of the ground that the net may pass lies in the board
  pub wire_inside : (t : Rect) → IsWireStrip (ground_of b set n) l t → LiesIn t (board_area b)
  wire_inside t w =
      let strips : List Strip = strips_at set.wires l.0 (class_of b n) in
      let s : Strip = record { area = t; label = w.strip.label } in
      lies_in_from t (board_area b) (λ p k. strip_inside (board_area b) (label_of strips) s p ((wires w.on_layer).each s w.strip.listed) k)
