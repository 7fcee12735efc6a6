-- The boxes from which a net's next connection may start lie on the board.
use Rattle.std.proofs.Common.{◌<◌, ◌≤◌, ℕ, pos, ◌+◌, ◌-◌, List, [], ◌∷◌, Option, length, map, take, All, inl, inr, sym, subst, arith}
use Rattle.std.specs.List.{flat_map}
use Rattle.std.proofs.lemmas.List.Elements.{All-nil, All-cons, All-append, All-map, All-weaker, All-filter, All-take, All-get_or}
use Rattle.std.proofs.lemmas.Option.{slice_get_cases}
use Rattle.geo_rect.specs.declared.ids.LayerId.{LayerId}
use Rattle.geo_rect.specs.declared.ids.NetId.{NetId}
use Rattle.geo_rect.specs.declared.ids.Node.{Node}
use Rattle.geo_rect.specs.declared.ids.Spot.{Spot}
use Rattle.geo_rect.specs.Plane.{lone}
use Rattle.board_model.specs.declared.made.Conn.{Conn}
use Rattle.board_model.specs.declared.made.Leg.{Leg}
use Rattle.board_model.specs.declared.made.Leg.TheVariants.{Wire, Via}
use Rattle.board_parts.specs.declared.parts.BoardParts.{BoardParts}
use Rattle.board_parts.specs.declared.parts.Pin.{Pin}
use Rattle.board_model.specs.declared.shapes.Shape.{Shape}
use Rattle.board_model.specs.Boxes.{spot_on, pin_boxes, leg_boxes, legs_boxes, corner_boxes, conn_boxes, boxes_of_some, source_boxes, target_boxes}
use Rattle.board_parts.specs.Lookup.{kind_of, layer_at, layers_from, pins_of}
use Rattle.board_model.specs.Made.{conns_of}
use Rattle.board_parts.specs.Rules.{IsBoard, IsOnBoard, IsPin}
use Rattle.board_model.specs.Segments.{segment}
use Rattle.board_model.specs.Shapes.{place_of, end_of}
use Rattle.board_model.specs.WellFormed.{IsStep, AreSteps, IsWellFormed}
use Rattle.board_model.proofs.MadeShapes.{kind_is}
use Rattle.board_model.proofs.StateShapes.{All-flat_map, numbers_below}
use Rattle.route_law.specs.Boards.{IsGroundOf}
use Rattle.route_law.specs.Connections.{steps_of}
use Rattle.route_law.specs.Ground.{Ground, IsPassableNode}
use Rattle.route_law.specs.Walks.{IsWalk}
use Rattle.route_law.proofs.Law.{first_passable}
use Rattle.step_laws.proofs.Legs.{AreClear, legs_clear}
use Rattle.step_laws.proofs.Wide.{segment_on_board}
use Rattle.strip_moves.specs.Boxes.{IsBoardBox}
use Rattle.session_core.specs.Sessions.{IsWithin}

layers_below : (first last : LayerId) (top : ℕ) → first.0 ≤ last.0 → last.0 < top → All (λ (l : LayerId). l.0 < top) (layers_from first last)
layers_below first last top order below =
    All-map (λ (l : LayerId). l.0 < top) layer_at _ (numbers_below first.0 (last.0 + 1 - first.0) top (λ e. omega arith) (omega arith))

-- an area of the board makes a box of it on each of its layers
spots_on : (b : BoardParts) (first last : LayerId) (box : Spot) → first.0 ≤ last.0 → last.0 < length b.layers → IsOnBoard b.width b.height box.area → All (IsBoardBox b) (map (spot_on box.area) (layers_from first last))
spots_on b first last box order below on =
    All-map (IsBoardBox b) (spot_on box.area) _
    (All-weaker (λ (l : LayerId). l.0 < length b.layers) (λ l. IsBoardBox b (spot_on box.area l)) (λ l e. record { layer = e; area = on }) _ (layers_below first last (length b.layers) order below))

pin_within : (b : BoardParts) (p : Pin) → IsPin b p → All (IsBoardBox b) (pin_boxes p)
pin_within b p h = spots_on b p.first p.last (spot_on p.area p.first) h.order h.layer h.area

pub pins_within : (b : BoardParts) (n : NetId) → IsBoard b → All (IsPin b) (pins_of b n)
pins_within b n board = All-filter _ (IsPin b) b.pins board.each_pin

-- the boxes from which the next connection may start lie on the board, where what is made does
pub sources_within : (b : BoardParts) (lists : List (List Conn)) (n : NetId) → IsBoard b → n.0 < length lists → All (All (IsWithin b)) lists → All (IsBoardBox b) (source_boxes b lists n)
sources_within b lists n board l h =
    let k = length (conns_of lists n) + 1 in
    All-append (IsBoardBox b) (flat_map pin_boxes (take k (pins_of b n))) (flat_map (conn_boxes b) (conns_of lists n))
    (All-flat_map (IsBoardBox b) pin_boxes (take k (pins_of b n)) (All-weaker (IsPin b) (λ p. All (IsBoardBox b) (pin_boxes p)) (pin_within b) _ (All-take (IsPin b) k (pins_of b n) (pins_within b n board))))
    (All-flat_map (IsBoardBox b) (conn_boxes b) (conns_of lists n) (All-get_or (All (IsWithin b)) lists n.0 [] l h))

-- so does the box in which it may end
pub targets_within : (b : BoardParts) (n : NetId) (j : ℕ) → IsBoard b → j < length (pins_of b n) → All (IsBoardBox b) (target_boxes b n j)
targets_within b n j board l = elim ((slice_get_cases (pins_of b n) j).1) [
  | inl h ↦
      let is : IsPin b h.0 = subst (IsPin b) h.3 (All-get_or (IsPin b) (pins_of b n) j h.0 l (pins_within b n board)) in
      let P : Option Pin → Type 0 = λ o. All (IsBoardBox b) (boxes_of_some o) in
      subst P (sym h.2) (pin_within b h.0 is)
  | inr h ↦ (let past = h.0 in absurd (omega arith))
]

module _ (b : BoardParts) (board : IsBoard b) (shapes : List Shape) (n : NetId) (g : Ground) (of : IsGroundOf b shapes n g) where
  -- a node that the net may pass is on the board
  node_within : (v : Node) → IsPassableNode g v → IsBoardBox b (spot_on (lone (place_of v)) v.layer)
  node_within v h = record { layer = subst (λ (m : ℕ). v.layer.0 < m) of.layers h.on_layer; area = (of.points (place_of v)).0 h.in_region }

  leg_within : (v : Node) (leg : Leg) → IsStep b v leg → IsPassableNode g v → IsPassableNode g (end_of leg) → All (IsBoardBox b) (leg_boxes b v leg)
  leg_within v (Wire w) step h k =
      let from = node_within v h in
      let to = node_within w k in
      let box : Spot = spot_on (segment (place_of v) (place_of w) (pos 0)) w.layer in
      All-cons (IsBoardBox b) box [] (record { layer = to.layer; area = segment_on_board b.width b.height (pos 0) (place_of v) (place_of w) from.area to.area }) (All-nil (IsBoardBox b))
  leg_within v (Via kind w) step h k =
      let is = kind_is b board kind step.form.kind in
      let order = is.order in
      let to = node_within w k in
      spots_on b (kind_of b kind).first (kind_of b kind).last (spot_on (lone (place_of w)) w.layer) (omega arith) is.known to.area

  legs_within : (v : Node) (legs : List Leg) → AreSteps b v legs → IsPassableNode g v → AreClear g v legs → All (IsBoardBox b) (legs_boxes b v legs)
  legs_within v [] steps h clear = All-nil (IsBoardBox b)
  legs_within v (leg ∷ legs) steps h clear =
      All-append (IsBoardBox b) (leg_boxes b v leg) (legs_boxes b (end_of leg) legs)
      (leg_within v leg steps.0 h clear.1)
      (legs_within (end_of leg) legs steps.1 clear.1 clear.2)

  corners_within : (v : Node) (legs : List Leg) → AreSteps b v legs → IsPassableNode g v → AreClear g v legs → All (IsBoardBox b) (corner_boxes b v legs)
  corners_within v [] steps h clear = All-cons (IsBoardBox b) (spot_on (lone (place_of v)) v.layer) [] (node_within v h) (All-nil (IsBoardBox b))
  corners_within v (leg ∷ legs) steps h clear = legs_within v (leg ∷ legs) steps h clear

  -- a connection over nodes that the net may pass lies on the board
  pub conn_within : (c : Conn) → IsWellFormed b c → IsWalk g c.start (steps_of c) → IsWithin b c
  conn_within c well h = corners_within c.start c.legs well.steps (first_passable g c.start (steps_of c) h) (legs_clear b g c.start c.legs well.steps h)
