-- Where the connections of a state are on the board, so are the boxes that the next one leads between.
use Rattle.std.proofs.Common.{ℕ, zero, suc, ℤ, pos, ◌+◌, ◌-◌, ◌<◌, ◌≤◌, ◌≤ℤ◌, List, [], ◌∷◌, length, map, take, All, Option, Some, None, arith}
use Rattle.std.specs.Prelude.{slice_get, IfSome}
use Rattle.std.specs.List.{range_with_len, flat_map}
use Rattle.std.proofs.lemmas.Int.{ints, clamps}
use Rattle.std.proofs.lemmas.List.{length-map}
use Rattle.std.proofs.lemmas.List.Elements.{All-nil, All-cons, All-head, All-tail, All-append, All-map, All-weaker, All-take, All-filter}
use Rattle.std.proofs.lemmas.List.FromFn.{length-range_with_len}
use Rattle.geo_rect.specs.declared.ids.LayerId.{LayerId}
use Rattle.geo_rect.specs.declared.ids.NetId.{NetId}
use Rattle.geo_rect.specs.declared.ids.Node.{Node}
use Rattle.geo_rect.specs.declared.ids.Spot.{Spot}
use Rattle.geo_rect.specs.declared.shapes.Rect.{Rect}
use Rattle.geo_rect.specs.Axis.{HasNumber}
use Rattle.geo_rect.specs.Plane.{lone}
use Rattle.board_model.specs.declared.made.Conn.{Conn}
use Rattle.board_model.specs.declared.made.Leg.{Leg}
use Rattle.board_model.specs.declared.made.Leg.TheVariants.{Wire, Via}
use Rattle.board_parts.specs.declared.parts.BoardParts.{BoardParts}
use Rattle.board_parts.specs.declared.parts.Pin.{Pin}
use Rattle.board_model.specs.Boxes.{spot_on, pin_boxes, leg_boxes, legs_boxes, corner_boxes, conn_boxes, source_boxes, boxes_of_some, target_boxes}
use Rattle.board_parts.specs.Lookup.{kind_of, layer_at, layers_from, pins_of}
use Rattle.board_model.specs.Made.{conns_of}
use Rattle.board_parts.specs.Rules.{IsBoard, IsSide, IsOnBoard, IsPin}
use Rattle.board_model.specs.Segments.{stretch, segment}
use Rattle.board_model.specs.Shapes.{place_of, end_of}
use Rattle.board_model.specs.WellFormed.{IsStep, AreSteps, IsWellFormed}
use Rattle.board_model.proofs.MadeShapes.{kind_is}
use Rattle.board_model.proofs.StateShapes.{All-flat_map, numbers_below}
use Rattle.plane_set.specs.Standing.{PlaneTable}
use Rattle.route_law.specs.Connections.{steps_of}
use Rattle.route_law.specs.Joins.{IsConnection}
use Rattle.route_law.proofs.Law.{first_passable}
use Rattle.strip_moves.specs.Boxes.{IsBoardBox}
use Rattle.strip_moves.specs.Grounds.{upto, ground_of, IsBoardNode}
use Rattle.walk_check.specs.Corners.{IsGoodLeg}
use Rattle.walk_check.proofs.GoodLegs.{AreGood, legs_good}
use Rattle.replay_check.specs.States.{IsBoardConn}

-- between two numbers of a side lies nothing else
low_on : (w u v : ℤ) → HasNumber (upto w) u → HasNumber (upto w) v → pos 0 ≤ℤ (stretch u v (pos 0)).low
low_on w u v h k = let a = h.from in let b = k.from in omega (arith, ints, clamps)

high_on : (w u v : ℤ) → IsSide w → HasNumber (upto w) u → HasNumber (upto w) v → (stretch u v (pos 0)).high ≤ℤ w
high_on w u v side h k = let s = side.from in let a = h.to in let b = k.to in omega (arith, ints, clamps)

stretch_last : (u v : ℤ) → HasNumber (stretch u v (pos 0)) v
stretch_last u v = record { from = omega (arith, ints, clamps); to = omega (arith, ints, clamps) }

layers_below : (top : ℕ) (first last : LayerId) → first.0 ≤ last.0 → last.0 < top → All (λ (l : LayerId). l.0 < top) (layers_from first last)
layers_below top first last h k =
    All-map (λ (l : LayerId). l.0 < top) layer_at _ (numbers_below first.0 (last.0 + 1 - first.0) top (λ e. omega (arith, h, k)) (omega (arith, h, k)))

module _ (b : BoardParts) (board : IsBoard b) where
  line_on : (v w : Node) → IsBoardNode b v → IsBoardNode b w → IsOnBoard b.width b.height (segment (place_of v) (place_of w) (pos 0))
  line_on v w h k = record {
    left = low_on b.width v.x w.x h.place.across k.place.across;
    below = low_on b.height v.y w.y h.place.up k.place.up;
    right = high_on b.width v.x w.x board.width h.place.across k.place.across;
    above = high_on b.height v.y w.y board.height h.place.up k.place.up;
  }

  node_on : (v : Node) → IsBoardNode b v → IsOnBoard b.width b.height (lone (place_of v))
  node_on v h = let o = line_on v v h h in
      let l = o.left in
      let d = o.below in
      let r = o.right in
      let u = o.above in
      record { left = omega (arith, ints, clamps); below = omega (arith, ints, clamps); right = omega (arith, ints, clamps); above = omega (arith, ints, clamps) }

  boxes_on : (area : Rect) (layers : List LayerId) → IsOnBoard b.width b.height area → All (λ (l : LayerId). l.0 < length b.layers) layers → All (IsBoardBox b) (map (spot_on area) layers)
  boxes_on area layers o h =
      All-map (IsBoardBox b) (spot_on area) layers
      (All-weaker (λ (l : LayerId). l.0 < length b.layers) (λ l. IsBoardBox b (spot_on area l)) (λ l k. record { layer = k; area = o }) layers h)

  pin_on : (p : Pin) → IsPin b p → All (IsBoardBox b) (pin_boxes p)
  pin_on p h = boxes_on p.area (layers_from p.first p.last) h.area (layers_below (length b.layers) p.first p.last h.order h.layer)

  leg_on : (v : Node) (leg : Leg) → IsBoardNode b v → IsBoardNode b (end_of leg) → IsStep b v leg → All (IsBoardBox b) (leg_boxes b v leg)
  leg_on v (Wire w) h k s =
      let area = segment (place_of v) (place_of w) (pos 0) in
      All-cons (IsBoardBox b) (spot_on area w.layer) [] (record { layer = k.layer; area = line_on v w h k }) (All-nil (IsBoardBox b))
  leg_on v (Via k w) h i s =
      let kind = kind_is b board k s.form.kind in
      let order = kind.order in
      boxes_on (lone (place_of w)) (layers_from (kind_of b k).first (kind_of b k).last) (node_on w i)
      (layers_below (length b.layers) (kind_of b k).first (kind_of b k).last (omega (arith, order)) kind.known)

  legs_on : (v : Node) (legs : List Leg) → IsBoardNode b v → All (λ (leg : Leg). IsBoardNode b (end_of leg)) legs → AreSteps b v legs → All (IsBoardBox b) (legs_boxes b v legs)
  legs_on v [] h k s = All-nil (IsBoardBox b)
  legs_on v (leg ∷ legs) h k s =
      let P : Leg → Type 0 = λ x. IsBoardNode b (end_of x) in
      let end = All-head P leg legs k in
      All-append (IsBoardBox b) (leg_boxes b v leg) (legs_boxes b (end_of leg) legs) (leg_on v leg h end s.0)
      (legs_on (end_of leg) legs end (All-tail P leg legs k) s.1)

  corners_on : (v : Node) (legs : List Leg) → IsBoardNode b v → All (λ (leg : Leg). IsBoardNode b (end_of leg)) legs → AreSteps b v legs → All (IsBoardBox b) (corner_boxes b v legs)
  corners_on v [] h k s =
      All-cons (IsBoardBox b) (spot_on (lone (place_of v)) v.layer) [] (record { layer = h.layer; area = node_on v h }) (All-nil (IsBoardBox b))
  corners_on v (leg ∷ legs) h k s = legs_on v (leg ∷ legs) h k s

  conns_on : (conns : List Conn) → All (IsBoardConn b) conns → All (IsWellFormed b) conns → All (IsBoardBox b) (flat_map (conn_boxes b) conns)
  conns_on [] h k = All-nil (IsBoardBox b)
  conns_on (c ∷ conns) h k =
      let here = All-head (IsBoardConn b) c conns h in
      let form = All-head (IsWellFormed b) c conns k in
      All-append (IsBoardBox b) (conn_boxes b c) (flat_map (conn_boxes b) conns) (corners_on c.start c.legs here.start here.ends form.steps)
      (conns_on conns (All-tail (IsBoardConn b) c conns h) (All-tail (IsWellFormed b) c conns k))

  pins_known : (n : NetId) → All (IsPin b) (pins_of b n)
  pins_known n = All-filter _ (IsPin b) b.pins board.each_pin

  pub sources_on : (lists : List (List Conn)) (n : NetId) → All (IsBoardConn b) (conns_of lists n) → All (IsWellFormed b) (conns_of lists n) → All (IsBoardBox b) (source_boxes b lists n)
  sources_on lists n h k =
      let conns = conns_of lists n in
      let pins = take (length conns + 1) (pins_of b n) in
      let known = All-take (IsPin b) (length conns + 1) (pins_of b n) (pins_known n) in
      All-append (IsBoardBox b) (flat_map pin_boxes pins) (flat_map (conn_boxes b) conns)
      (All-flat_map (IsBoardBox b) pin_boxes pins (All-weaker (IsPin b) (λ p. All (IsBoardBox b) (pin_boxes p)) pin_on pins known)) (conns_on conns h k)

  some_on : (o : Option Pin) → IfSome o (IsPin b) → All (IsBoardBox b) (boxes_of_some o)
  some_on None h = All-nil (IsBoardBox b)
  some_on (Some p) h = pin_on p h

  get_known : (pins : List Pin) (j : ℕ) → All (IsPin b) pins → IfSome (slice_get pins j) (IsPin b)
  get_known [] j h = tt
  get_known (p ∷ pins) zero h = All-head (IsPin b) p pins h
  get_known (p ∷ pins) (suc j) h = get_known pins j (All-tail (IsPin b) p pins h)

  pub targets_on : (n : NetId) (j : ℕ) → All (IsBoardBox b) (target_boxes b n j)
  targets_on n j = some_on (slice_get (pins_of b n) j) (get_known (pins_of b n) j (pins_known n))

  box_of_pin : (p : Pin) → IsPin b p → 0 < length (pin_boxes p)
  box_of_pin p h =
      let layers = layers_from p.first p.last in
      let few = length-map layers (spot_on p.area) in
      let same = length-map (range_with_len p.first.0 (p.last.0 + 1 - p.first.0)) layer_at in
      let count = length-range_with_len p.first.0 (p.last.0 + 1 - p.first.0) in
      omega (arith, few, same, count, h.order)

  box_at : (pins : List Pin) (j : ℕ) → All (IsPin b) pins → j < length pins → 0 < length (boxes_of_some (slice_get pins j))
  box_at [] j h l = absurd (omega (arith, l))
  box_at (p ∷ pins) zero h l = box_of_pin p (All-head (IsPin b) p pins h)
  box_at (p ∷ pins) (suc j) h l = box_at pins j (All-tail (IsPin b) p pins h) (omega (arith, l))

  pub some_target : (n : NetId) (j : ℕ) → j < length (pins_of b n) → 0 < length (target_boxes b n j)
  some_target n j l = box_at (pins_of b n) j (pins_known n) l

-- a connection that is a walk over the ground of a net has its corners on the board
module _ (b : BoardParts) (set : PlaneTable) (n : NetId) where
  end_on : (v : Node) (leg : Leg) → IsGoodLeg b (ground_of b set n) v leg → IsBoardNode b (end_of leg)
  end_on v (Wire w) h =
      let p = h.clear.each (place_of w) (record { across = stretch_last v.x w.x; up = stretch_last v.y w.y }) in
      record { layer = p.on_layer; place = p.in_region }
  end_on v (Via k w) h = record { layer = h.clear.end.on_layer; place = h.clear.end.in_region }

  ends_on : (v : Node) (legs : List Leg) → AreGood b set n v legs → All (λ (leg : Leg). IsBoardNode b (end_of leg)) legs
  ends_on v [] h = All-nil (λ (leg : Leg). IsBoardNode b (end_of leg))
  ends_on v (leg ∷ legs) h = All-cons (λ (x : Leg). IsBoardNode b (end_of x)) leg legs (end_on v leg h.0) (ends_on (end_of leg) legs h.1)

  pub conn_on_board : (sources targets : List Spot) (c : Conn) → IsConnection b (ground_of b set n) c sources targets → IsBoardConn b c
  conn_on_board sources targets c h =
      let first = first_passable (ground_of b set n) c.start (steps_of c) h.walk.walk in
      record {
        start = record { layer = first.on_layer; place = first.in_region };
        ends = ends_on c.start c.legs (legs_good b set n c.start c.legs h.well_formed.steps h.walk.walk);
      }
