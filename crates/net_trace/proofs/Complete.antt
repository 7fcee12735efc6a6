-- A net that lacks no connection has its pins in one group.
use Rattle.std.proofs.Common.{ℕ, zero, suc, ◌≡◌, ◌+◌, ◌<◌, ◌≤◌, ◌≢◌, ◌⊎◌, inl, inr, List, [], ◌∷◌, length, map, get_or, eqb, Some, All, ap, sym, ◌∙◌, subst, arith}
use Rattle.std.specs.Prelude.{Contains, None, slice_get}
use Rattle.std.specs.List.{flat_map}
use Rattle.std.proofs.lemmas.Bool.Decides.{Decides-eqb}
use Rattle.std.proofs.lemmas.List.{length-append, length-map, get_or-map, get_or_append_left, take_all}
use Rattle.std.proofs.lemmas.List.Elements.{All-filter, All-weaker, All-contains, All-contains_itself, Contains-append_left, Contains-append_right, Contains-get_or}
use Rattle.std.proofs.lemmas.Option.{same_Some, slice_get_cases, slice_get_within, slice_get-get_or, get_or_from_slice_get}
use Rattle.geo_rect.specs.declared.ids.NetId.{NetId}
use Rattle.board_parts.specs.declared.commands.Command.{Command}
use Rattle.board_parts.specs.declared.parts.BoardParts.{BoardParts}
use Rattle.board_parts.specs.declared.parts.Pin.{Pin}
use Rattle.board_parts.specs.Lookup.{pins_of}
use Rattle.board_parts.specs.Rules.{IsBoard, IsPin}
use Rattle.board_model.specs.declared.made.Conn.{Conn}
use Rattle.board_model.specs.Made.{conns_of}
use Rattle.route_law.specs.declared.replies.Reply.{Reply}
use Rattle.route_law.specs.Routing.{conns_needed, net_at}
use Rattle.route_law.specs.Steps.{IsRunFrom, nothing_made}
use Rattle.net_trace.specs.declared.copper.Piece.{Piece}
use Rattle.net_trace.specs.declared.traced.OpenNet.{OpenNet}
use Rattle.net_trace.specs.declared.traced.Traced.{Traced}
use Rattle.net_trace.specs.Joined.{IsPinOf, ArePinsJoined}
use Rattle.net_trace.specs.Pieces.{pin_piece, conn_pieces, made_pieces, pieces_of}
use Rattle.net_trace.specs.Report.{IsReport, IsCount, HasPiece}
use Rattle.net_trace.specs.Touching.{IsLeastJoined}
use Rattle.net_trace.proofs.Attached.{AreAttached, run_attached, run_nets}
use Rattle.net_trace.proofs.Holding.{touch_at, pin_has_node}
use Rattle.net_trace.proofs.Joining.{one_group}
use Rattle.net_trace.proofs.Members.{Contains-map, Contains-flat_map, Contains-filter}
use Rattle.net_trace.proofs.Tied.{IsTied, tied_itself, linked_on, IsStage, first_stage, all_stages}

-- the pieces of a net's connections are among those of the state
made_there : (b : BoardParts) (n : NetId) (k i : ℕ) (lists : List (List Conn)) (p : Piece) → i < length lists → net_at (k + i) ≡ n → Contains (flat_map (conn_pieces b n) (get_or lists i [])) p → Contains (made_pieces b k lists) p
made_there b n k i [] p l e c = absurd (omega arith)
made_there b n k zero (x ∷ lists) p l e c =
    let same : n ≡ net_at k = sym e ∙ ap net_at (omega arith) in
    Contains-append_left (flat_map (conn_pieces b (net_at k)) x) (made_pieces b (k + 1) lists) p (subst (λ (m : NetId). Contains (flat_map (conn_pieces b m) x) p) same c)
made_there b n k (suc i) (x ∷ lists) p l e c =
    Contains-append_right (flat_map (conn_pieces b (net_at k)) x) (made_pieces b (k + 1) lists) p
    (made_there b n (k + 1) i lists p (omega arith) (ap net_at (omega arith) ∙ e) c)

module _ (b : BoardParts) (lists : List (List Conn)) (n : NetId) where
  abbrev pieces : List Piece
  pieces = pieces_of b lists

  conns_there : n.0 < length lists → All (λ (c : Conn). All (Contains pieces) (conn_pieces b n c)) (conns_of lists n)
  conns_there l i d k j e m =
      let c : Conn = get_or (conns_of lists n) i d in
      let p : Piece = get_or (conn_pieces b n c) j e in
      let own = Contains-flat_map (conn_pieces b n) (conns_of lists n) c p (Contains-get_or (conns_of lists n) i d k) (Contains-get_or (conn_pieces b n c) j e m) in
      Contains-append_right (map pin_piece b.pins) (made_pieces b 0 lists) p (made_there b n 0 n.0 lists p l (ap net_at (omega arith)) own)

  pin_there : (p : Pin) → Contains b.pins p → Contains pieces (pin_piece p)
  pin_there p c = Contains-append_left (map pin_piece b.pins) (made_pieces b 0 lists) (pin_piece p) (Contains-map pin_piece b.pins p c)

  pins_there : All (λ (p : Pin). Contains pieces (pin_piece p)) (pins_of b n)
  pins_there =
      All-filter (λ (p : Pin). eqb p.net.0 n.0) (λ (p : Pin). Contains pieces (pin_piece p)) b.pins
      (All-weaker (Contains b.pins) (λ (p : Pin). Contains pieces (pin_piece p)) pin_there b.pins (All-contains_itself b.pins))

  -- pin number i of the board is piece number i
  pin_listed : (i : ℕ) (p : Pin) → slice_get b.pins i ≡ Some p → slice_get pieces i ≡ Some (pin_piece p)
  pin_listed i p e =
      let l = slice_get_within b.pins i p e in
      let first : i < length (map pin_piece b.pins) = omega (arith, length-map b.pins pin_piece, l) in
      let within : i < length pieces = omega (arith, length-append (map pin_piece b.pins) (made_pieces b 0 lists), first) in
      let same : get_or pieces i (pin_piece p) ≡ pin_piece p =
      get_or_append_left (map pin_piece b.pins) (made_pieces b 0 lists) (pin_piece p) i first ∙ get_or-map pin_piece b.pins i p (pin_piece p) l ∙ ap pin_piece (get_or_from_slice_get b.pins i p p e) in
      slice_get-get_or pieces i (pin_piece p) within ∙ ap Some same

  pin_of_board : (i : ℕ) (h : IsPinOf b n i) → Contains b.pins h.pin
  pin_of_board i h = (i, slice_get_within b.pins i h.pin h.here, get_or_from_slice_get b.pins i h.pin h.pin h.here)

  pin_of_net : (i : ℕ) (h : IsPinOf b n i) → Contains (pins_of b n) h.pin
  pin_of_net i h =
      Contains-filter (λ (p : Pin). eqb p.net.0 n.0) b.pins h.pin (pin_of_board i h) ((Decides-eqb h.pin.net.0 n.0).1 (ap (λ (m : NetId). m.0) h.net))

  module _ (board : IsBoard b) (nets : length lists ≡ length b.net_names) (attached : AreAttached b n [] (conns_of lists n)) (all : length (conns_of lists n) ≡ conns_needed b n) where
    -- the net's pins are tied to its first
    pins_tied : (d : Pin) → 0 < length (pins_of b n) → n.0 < length lists → All (λ (p : Pin). IsTied pieces (pin_piece (get_or (pins_of b n) 0 d)) (pin_piece p)) (pins_of b n)
    pins_tied d some known =
        let q : Pin = get_or (pins_of b n) 0 d in
        let hub : Piece = pin_piece q in
        let there : Contains pieces hub = pins_there 0 d some in
        let pin : IsPin b q = All-filter (λ (p : Pin). eqb p.net.0 n.0) (IsPin b) b.pins board.each_pin 0 d some in
        let v = pin_has_node q pin.order in
        let first = first_stage pieces hub b n d some (tied_itself pieces hub there (touch_at hub hub v.0 v.1 v.1)) in
        let last : IsStage pieces hub b n (conns_of lists n) = all_stages pieces hub b n pins_there [] (conns_of lists n) attached (conns_there known) first in
        subst (All (λ (p : Pin). IsTied pieces hub (pin_piece p))) (take_all (length (conns_of lists n) + 1) (pins_of b n) (omega (arith, all))) last.pins

    pub pins_joined : ArePinsJoined b lists n
    pins_joined i j h g =
        let c = pin_of_net i h in
        let some : 0 < length (pins_of b n) = omega (arith, c.1) in
        let pin : IsPin b h.pin = All-contains (IsPin b) b.pins h.pin board.each_pin (pin_of_board i h) in
        let same : h.pin.net.0 ≡ n.0 = ap (λ (m : NetId). m.0) h.net in
        let known : n.0 < length lists = omega (arith, nets, same, pin.net) in
        let q : Pin = get_or (pins_of b n) 0 h.pin in
        let tied = pins_tied h.pin some known in
        let T : Pin → Type 0 = λ p. IsTied pieces (pin_piece q) (pin_piece p) in
        let one : T h.pin = All-contains T (pins_of b n) h.pin tied c in
        let two : T g.pin = All-contains T (pins_of b n) g.pin tied (pin_of_net j g) in
        linked_on pieces (pin_piece h.pin) (pin_piece q) (pin_piece g.pin) (pins_there 0 h.pin some) one.to_hub two.from_hub i j (pin_listed i h.pin h.here) (pin_listed j g.pin g.here)

  -- a piece of the net that is among the first, as pins are, is a pin of the net
  pin_of_piece : (f : ℕ) (h : HasPiece (length b.pins) pieces (IsLeastJoined pieces) n f) → IsPinOf b n h.number
  pin_of_piece f h = by (slice_get_cases b.pins h.number).1
    where
      by : ((p : Pin) × (h.number < length b.pins) × (slice_get b.pins h.number ≡ Some p) × (get_or b.pins h.number p ≡ p)) ⊎ ((length b.pins ≤ h.number) × (slice_get b.pins h.number ≡ None)) → IsPinOf b n h.number
      by (inl q) =
          let same : pin_piece q.0 ≡ h.of_net.piece = same_Some (pin_piece q.0) h.of_net.piece (sym (pin_listed h.number q.0 q.2) ∙ h.of_net.here) in
          record { pin = q.0; here = q.2; net = ap (λ (p : Piece). p.net) same ∙ h.of_net.net }
      by (inr q) = absurd (omega (arith, q.0, h.early))

  -- where the pins are joined, one group has them all
  one_group_has : ArePinsJoined b lists n → (f g : ℕ) → HasPiece (length b.pins) pieces (IsLeastJoined pieces) n f → HasPiece (length b.pins) pieces (IsLeastJoined pieces) n g → f ≡ g
  one_group_has joined f g h k =
      one_group pieces h.number k.number f g (joined h.number k.number (pin_of_piece f h) (pin_of_piece g k)) (joined k.number h.number (pin_of_piece g k) (pin_of_piece f h)) h.in_group k.in_group

  not_several : ArePinsJoined b lists n → (groups : ℕ) → IsCount (HasPiece (length b.pins) pieces (IsLeastJoined pieces) n) groups → 2 ≤ groups → ⊥
  not_several joined groups h several =
      let fs : List ℕ = h.numbers in
      let first : 0 < length fs = omega (arith, h.many) in
      let second : 1 < length fs = omega (arith, h.many) in
      h.lists.ordered 0 1 0 (omega arith) second
      (one_group_has joined (get_or fs 0 0) (get_or fs 1 0) (h.lists.each (get_or fs 0 0) (Contains-get_or fs 0 0 first)) (h.lists.each (get_or fs 1 0) (Contains-get_or fs 1 0 second)))

  pub joined_not_open : ArePinsJoined b lists n → (traced : Traced) (o : OpenNet) → IsReport b lists traced → Contains traced.opens o → o.net ≢ n
  joined_not_open joined traced o report c e =
      let h = report.opens.each o c in
      not_several joined o.groups (subst (λ (m : NetId). IsCount (HasPiece (length b.pins) pieces (IsLeastJoined pieces) m) o.groups) e h.held) h.several

-- in each state of a run, where the net lacks no connection
pub run_joined : (b : BoardParts) (cs : List Command) (rs : List Reply) (lists : List (List Conn)) (n : NetId) → IsBoard b → IsRunFrom b (nothing_made b) cs rs lists → length (conns_of lists n) ≡ conns_needed b n → ArePinsJoined b lists n
run_joined b cs rs lists n board run all =
    pins_joined b lists n board (run_nets b cs rs lists run) (run_attached b cs rs lists run n) all
