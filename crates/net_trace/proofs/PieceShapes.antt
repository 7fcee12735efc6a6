-- The areas of pieces are those of the shapes of the state, and of the same nets.
use Rattle.std.proofs.Common.{ℕ, ◌≡◌, ◌+◌, ◌⊎◌, inl, inr, List, [], ◌∷◌, map, Some, All, refl, ap, ◌∙◌, subst}
use Rattle.std.specs.Prelude.{Contains, Option}
use Rattle.std.specs.List.{flat_map}
use Rattle.std.proofs.lemmas.List.Elements.{All-nil, All-cons, All-map, All-contains, Contains-append_left, Contains-append_right, Contains-append_cases}
use Rattle.plane_core.proofs.Members.{has_none, has_cases}
use Rattle.geo_rect.specs.declared.ids.NetId.{NetId}
use Rattle.geo_rect.specs.declared.ids.Node.{Node}
use Rattle.geo_rect.specs.declared.ids.Spot.{Spot}
use Rattle.board_model.specs.declared.made.Conn.{Conn}
use Rattle.board_model.specs.declared.made.Leg.{Leg}
use Rattle.board_model.specs.declared.made.Leg.TheVariants.{Wire, Via}
use Rattle.board_model.specs.declared.shapes.Shape.{Shape}
use Rattle.board_parts.specs.declared.parts.BoardParts.{BoardParts}
use Rattle.board_parts.specs.declared.parts.Pin.{Pin}
use Rattle.board_parts.specs.Lookup.{layers_from}
use Rattle.board_model.specs.Boxes.{spot_on}
use Rattle.board_model.specs.Shapes.{end_of, net_shape, pin_shapes, block_shape, leg_shapes, legs_shapes, conn_shapes, made_shapes, board_shapes, state_shapes}
use Rattle.net_trace.specs.declared.copper.Piece.{Piece}
use Rattle.net_trace.specs.Pieces.{spot_of, pin_piece, leg_piece, legs_pieces, conn_pieces, made_pieces, pieces_of}
use Rattle.net_trace.proofs.Members.{Contains-map, Contains-map_cases, Contains-flat_map, Contains-flat_map_cases}

-- an area of a piece as a shape
abbrev pub shape_of : Piece → Spot → Shape
shape_of p s = net_shape p.net s.area s.layer

-- each area of the piece is that of one of the shapes
abbrev pub HasShapes : List Shape → Piece → Type 0
HasShapes shapes p = (s : Spot) → Contains p.area s → Contains shapes (shape_of p s)

more_shapes : (xs ys : List Shape) → ((s : Shape) → Contains xs s → Contains ys s) → (p : Piece) → HasShapes xs p → HasShapes ys p
more_shapes xs ys on p h s c = on (shape_of p s) (h s c)

-- a shape of the net is what its area and its layer say
shape_same : (n : NetId) (x : Shape) (s : Spot) → x.owner ≡ Some n → spot_of x ≡ s → x ≡ net_shape n s.area s.layer
shape_same n x s o e =
    ap (λ (w : Option NetId). let y : Shape = record { area = x.area; layer = x.layer; owner = w } in y) o ∙ ap (λ (t : Spot). net_shape n t.area t.layer) e

module _ (b : BoardParts) where
  leg_owned : (n : NetId) (v : Node) (leg : Leg) → All (λ (s : Shape). s.owner ≡ Some n) (leg_shapes b n v leg)
  leg_owned n v (Wire w) = All-cons (λ (s : Shape). s.owner ≡ Some n) _ [] refl (All-nil (λ (s : Shape). s.owner ≡ Some n))
  leg_owned n v (Via k w) = All-map (λ (s : Shape). s.owner ≡ Some n) _ _ (λ i d l. refl)

  leg_has : (n : NetId) (v : Node) (leg : Leg) → HasShapes (leg_shapes b n v leg) (leg_piece b n v leg)
  leg_has n v leg s c =
      let m = Contains-map_cases spot_of (leg_shapes b n v leg) s c in
      let o = All-contains (λ (x : Shape). x.owner ≡ Some n) (leg_shapes b n v leg) m.0 (leg_owned n v leg) m.1 in
      subst (Contains (leg_shapes b n v leg)) (shape_same n m.0 s o m.2) m.1

  legs_have : (n : NetId) (v : Node) (legs : List Leg) (p : Piece) → Contains (legs_pieces b n v legs) p → HasShapes (legs_shapes b n v legs) p
  legs_have n v [] p c = absurd (has_none p c)
  legs_have n v (leg ∷ legs) p c = by (has_cases (leg_piece b n v leg) (legs_pieces b n (end_of leg) legs) p c) (legs_have n (end_of leg) legs p)
    where
      by : (leg_piece b n v leg ≡ p) ⊎ Contains (legs_pieces b n (end_of leg) legs) p → (Contains (legs_pieces b n (end_of leg) legs) p → HasShapes (legs_shapes b n (end_of leg) legs) p) → HasShapes (legs_shapes b n v (leg ∷ legs)) p
      by (inl e) rest =
          subst (HasShapes (legs_shapes b n v (leg ∷ legs))) e
          (more_shapes (leg_shapes b n v leg) (legs_shapes b n v (leg ∷ legs)) (Contains-append_left (leg_shapes b n v leg) (legs_shapes b n (end_of leg) legs)) (leg_piece b n v leg) (leg_has n v leg))
      by (inr d) rest =
          more_shapes (legs_shapes b n (end_of leg) legs) (legs_shapes b n v (leg ∷ legs)) (Contains-append_right (leg_shapes b n v leg) (legs_shapes b n (end_of leg) legs)) p (rest d)

  conns_have : (n : NetId) (conns : List Conn) (p : Piece) → Contains (flat_map (conn_pieces b n) conns) p → HasShapes (flat_map (conn_shapes b n) conns) p
  conns_have n conns p c s d =
      let m = Contains-flat_map_cases (conn_pieces b n) conns p c in
      Contains-flat_map (conn_shapes b n) conns m.0 (shape_of p s) m.1 (legs_have n m.0.start m.0.legs p m.2 s d)

  made_have : (n : ℕ) (lists : List (List Conn)) (p : Piece) → Contains (made_pieces b n lists) p → HasShapes (made_shapes b n lists) p
  made_have n [] p c = absurd (has_none p c)
  made_have n (conns ∷ lists) p c = by (Contains-append_cases (flat_map (conn_pieces b (record { 0 = n })) conns) (made_pieces b (n + 1) lists) p c) (made_have (n + 1) lists p)
    where
      by : Contains (flat_map (conn_pieces b (record { 0 = n })) conns) p ⊎ Contains (made_pieces b (n + 1) lists) p → (Contains (made_pieces b (n + 1) lists) p → HasShapes (made_shapes b (n + 1) lists) p) → HasShapes (made_shapes b n (conns ∷ lists)) p
      by (inl d) rest =
          more_shapes (flat_map (conn_shapes b (record { 0 = n })) conns) (made_shapes b n (conns ∷ lists)) (Contains-append_left (flat_map (conn_shapes b (record { 0 = n })) conns) (made_shapes b (n + 1) lists)) p (conns_have (record { 0 = n }) conns p d)
      by (inr d) rest =
          more_shapes (made_shapes b (n + 1) lists) (made_shapes b n (conns ∷ lists)) (Contains-append_right (flat_map (conn_shapes b (record { 0 = n })) conns) (made_shapes b (n + 1) lists)) p (rest d)

  -- a pin's areas are its shapes
  pin_has : (p : Pin) → HasShapes (pin_shapes p) (pin_piece p)
  pin_has p s c =
      let m = Contains-map_cases (spot_on p.area) (layers_from p.first p.last) s c in
      subst (λ (t : Spot). Contains (pin_shapes p) (net_shape p.net t.area t.layer)) m.2 (Contains-map (net_shape p.net p.area) (layers_from p.first p.last) m.0 m.1)

  pins_have : (p : Piece) → Contains (map pin_piece b.pins) p → HasShapes (board_shapes b) p
  pins_have p c s d =
      let m = Contains-map_cases pin_piece b.pins p c in
      let here : HasShapes (pin_shapes m.0) p = subst (HasShapes (pin_shapes m.0)) m.2 (pin_has m.0) in
      Contains-append_right (map block_shape b.blocks) (flat_map pin_shapes b.pins) (shape_of p s) (Contains-flat_map pin_shapes b.pins m.0 (shape_of p s) m.1 (here s d))

  module _ (lists : List (List Conn)) where
    -- a piece of a state is a pin, or its areas are those of what is made
    pub piece_cases : (p : Piece) → Contains (pieces_of b lists) p → Contains (map pin_piece b.pins) p ⊎ Contains (made_pieces b 0 lists) p
    piece_cases p c = Contains-append_cases (map pin_piece b.pins) (made_pieces b 0 lists) p c

    pub made_piece_has : (p : Piece) → Contains (made_pieces b 0 lists) p → HasShapes (made_shapes b 0 lists) p
    made_piece_has p c = made_have 0 lists p c

    pub piece_has : (p : Piece) → Contains (pieces_of b lists) p → HasShapes (state_shapes b lists) p
    piece_has p c = by (piece_cases p c)
      where
        by : Contains (map pin_piece b.pins) p ⊎ Contains (made_pieces b 0 lists) p → HasShapes (state_shapes b lists) p
        by (inl d) = more_shapes (board_shapes b) (state_shapes b lists) (Contains-append_left (board_shapes b) (made_shapes b 0 lists)) p (pins_have p d)
        by (inr d) = more_shapes (made_shapes b 0 lists) (state_shapes b lists) (Contains-append_right (board_shapes b) (made_shapes b 0 lists)) p (made_piece_has p d)
