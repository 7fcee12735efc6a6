-- Each piece of a state is of a net of the board, and the pins come first.
use Rattle.std.proofs.Common.{◌≡◌, ℕ, ◌+◌, ◌<◌, List, [], ◌∷◌, length, map, All, subst, arith}
use Rattle.std.specs.Prelude.{Some, slice_get}
use Rattle.std.specs.List.{flat_map}
use Rattle.std.proofs.lemmas.List.Elements.{All-nil, All-cons, All-append, All-map, All-weaker, All-get_or}
use Rattle.std.proofs.lemmas.Option.{slice_get_within, get_or_from_slice_get}
use Rattle.geo_rect.specs.declared.ids.NetId.{NetId}
use Rattle.geo_rect.specs.declared.ids.Node.{Node}
use Rattle.board_model.specs.declared.made.Conn.{Conn}
use Rattle.board_model.specs.declared.made.Leg.{Leg}
use Rattle.board_parts.specs.declared.parts.BoardParts.{BoardParts}
use Rattle.board_parts.specs.Rules.{IsBoard, IsPin}
use Rattle.board_model.specs.Shapes.{end_of}
use Rattle.net_trace.specs.declared.copper.Piece.{Piece}
use Rattle.net_trace.specs.Pieces.{pin_piece, leg_piece, legs_pieces, conn_pieces, made_pieces, pieces_of}

module _ (b : BoardParts) where
  -- the piece is of a net of the board
  abbrev IsOfBoard : Piece → Type 0
  IsOfBoard p = p.net.0 < length b.net_names

  legs_known : (n : NetId) → n.0 < length b.net_names → (from : Node) (legs : List Leg) → All IsOfBoard (legs_pieces b n from legs)
  legs_known n l from [] = All-nil IsOfBoard
  legs_known n l from (leg ∷ legs) = All-cons IsOfBoard (leg_piece b n from leg) (legs_pieces b n (end_of leg) legs) l (legs_known n l (end_of leg) legs)

  conns_known : (n : NetId) → n.0 < length b.net_names → (conns : List Conn) → All IsOfBoard (flat_map (conn_pieces b n) conns)
  conns_known n l [] = All-nil IsOfBoard
  conns_known n l (c ∷ conns) = All-append IsOfBoard (conn_pieces b n c) (flat_map (conn_pieces b n) conns) (legs_known n l c.start c.legs) (conns_known n l conns)

  made_known : (n : ℕ) (lists : List (List Conn)) → n + length lists ≡ length b.net_names → All IsOfBoard (made_pieces b n lists)
  made_known n [] e = All-nil IsOfBoard
  made_known n (conns ∷ lists) e =
      All-append IsOfBoard (flat_map (conn_pieces b (record { 0 = n })) conns) (made_pieces b (n + 1) lists)
      (conns_known (record { 0 = n }) (omega arith) conns) (made_known (n + 1) lists (omega arith))

  pub pieces_known : IsBoard b → (lists : List (List Conn)) → length lists ≡ length b.net_names → All IsOfBoard (pieces_of b lists)
  pieces_known h lists e =
      All-append IsOfBoard (map pin_piece b.pins) (made_pieces b 0 lists)
      (All-map IsOfBoard pin_piece b.pins (All-weaker (IsPin b) (λ p. IsOfBoard (pin_piece p)) (λ p q. q.net) b.pins h.each_pin))
      (made_known 0 lists (omega arith))

  pub net_is_known : (pieces : List Piece) → All IsOfBoard pieces → (i : ℕ) (p : Piece) → slice_get pieces i ≡ Some p → p.net.0 < length b.net_names
  net_is_known pieces h i p e =
      let l = slice_get_within pieces i p e in
      subst IsOfBoard (get_or_from_slice_get pieces i p p e) (All-get_or IsOfBoard pieces i p l h)
