-- A session goes on when a connection is made, and when a net's connections are removed.
use Rattle.std.proofs.Common.{◌≡◌, ◌<◌, ℕ, ◌+◌, ◌↔◌, ◌⊎◌, inl, inr, List, [], ◌∷◌, ◌++◌, Some, length, All, Contains, Option, None, is_some, false, sym, ap, subst, refl, rules, arith}
use Rattle.std.specs.Prelude.{IsSome}
use Rattle.std.specs.List.{flat_map}
use Rattle.std.proofs.lemmas.Bool.{false≢true}
use Rattle.std.proofs.lemmas.List.Elements.{All-replicate, All-nil, All-cons, All-append, All-weaker, All-get_or, All-set, Contains-append_left, Contains-append_right, Contains-append_cases}
use Rattle.geo_rect.specs.declared.ids.NetId.{NetId}
use Rattle.board_model.specs.declared.made.Conn.{Conn}
use Rattle.board_parts.specs.declared.parts.BoardParts.{BoardParts}
use Rattle.board_model.specs.declared.shapes.Shape.{Shape}
use Rattle.board_model.specs.Known.{IsKnown}
use Rattle.board_parts.specs.Lookup.{pins_of}
use Rattle.board_model.specs.Made.{conns_of, with_conn, without_conns}
use Rattle.board_parts.specs.Rules.{IsBoard}
use Rattle.board_model.specs.Shapes.{conn_shapes, board_shapes, state_shapes}
use Rattle.board_model.specs.WellFormed.{IsWellFormed}
use Rattle.board_model.proofs.MadeShapes.{conn_known}
use Rattle.board_model.proofs.StateShapes.{All-flat_map, only_the_board}
use Rattle.plane_set.specs.Standing.{PlaneTable, StandsFor}
use Rattle.plane_set.proofs.Standing.{stands_for_members}
use Rattle.route_law.specs.declared.replies.Made1.{Made1}
use Rattle.route_law.specs.declared.replies.Fail.{Fail}
use Rattle.route_law.specs.Kept.{IsState}
use Rattle.route_law.specs.Routing.{IsNextConnection, AreMadeInTurn, next_number}
use Rattle.route_law.specs.Steps.{nothing_made}
use Rattle.route_law.proofs.Beginning.{nothing-state}
use Rattle.route_law.proofs.Running.{made-next}
use Rattle.step_laws.proofs.Shapes.{shapes_with_conn, shapes_without_conns}
use Rattle.session_core.specs.Sessions.{IsSession, IsSitting, IsWithin}
use Rattle.step_laws.proofs.Keeping.{legs_owned, length-with_conn, joined_state, removed_state}
use Rattle.session_core.specs.Adopting.{IsNextWalk}
use Rattle.session_core.specs.Attempts.{IsOneMore, IsTurn}
use Rattle.session_core.proofs.Listing.{length_pushed}
use Rattle.session_core.proofs.OnBoard.{conn_within}

-- a list of two parts has the items of both
pub parts : (xs ys : List Shape) (s : Shape) → Contains (xs ++ ys) s ↔ (Contains xs s ⊎ Contains ys s)
parts xs ys s = (Contains-append_cases xs ys s, back)
  where
    back : Contains xs s ⊎ Contains ys s → Contains (xs ++ ys) s
    back (inl h) = Contains-append_left xs ys s h
    back (inr h) = Contains-append_right xs ys s h

-- no net has a connection where nothing is made
none_of : (b : BoardParts) (lists : List (List Conn)) → lists ≡ nothing_made b → All (λ (conns : List Conn). conns ≡ []) lists
none_of b lists e =
    subst (λ (ls : List (List Conn)). All (λ (conns : List Conn). conns ≡ []) ls) (sym e) (All-replicate (λ (conns : List Conn). conns ≡ []) (length b.net_names) [] refl)

-- a session in which nothing is made needs no planes
pub session_nothing : (b : BoardParts) (lists : List (List Conn)) → IsBoard b → lists ≡ nothing_made b → IsSession b lists None
session_nothing b lists board e = record {
  board = board;
  state = subst (λ (ls : List (List Conn)). IsState b ls) (sym e) (nothing-state b);
  within = All-weaker (λ (conns : List Conn). conns ≡ []) (All (IsWithin b)) (λ conns empty. subst (λ (cs : List Conn). All (IsWithin b) cs) (sym empty) (All-nil (IsWithin b))) lists (none_of b lists e);
  planes = e;
}

-- planes of the board alone stand for a session that had none
pub sitting_built : (b : BoardParts) (lists : List (List Conn)) (set : PlaneTable) → StandsFor b (board_shapes b) set → IsSession b lists None → IsSitting b lists set
sitting_built b lists set stands h = record {
  board = h.board;
  state = h.state;
  within = h.within;
  stands = subst (λ (ss : List Shape). StandsFor b ss set) (sym (only_the_board b lists (none_of b lists h.planes))) stands;
}

module _ (b : BoardParts) (lists : List (List Conn)) (n : NetId) (set : PlaneTable) (h : IsSitting b lists set) (known : n.0 < length b.net_names) where
  pub net_listed : n.0 < length lists
  net_listed = let size = h.state.nets in omega arith

  pub own_well_formed : All (IsWellFormed b) (conns_of lists n)
  own_well_formed = All-get_or (All (IsWellFormed b)) lists n.0 [] net_listed h.state.well_formed

  with_within : (c : Conn) → IsWithin b c → All (All (IsWithin b)) (with_conn lists n c)
  with_within c w =
      All-set (All (IsWithin b)) lists n.0 (conns_of lists n ++ c ∷ [])
      (All-append (IsWithin b) (conns_of lists n) (c ∷ []) (All-get_or (All (IsWithin b)) lists n.0 [] net_listed h.within) (All-cons (IsWithin b) c [] w (All-nil (IsWithin b))))
      h.within

  -- a session goes on with a connection of the net, where the planes stand for its shapes too
  pub sitting_next : (c : Conn) (after : PlaneTable) → IsNextWalk b lists n c → StandsFor b (state_shapes b lists ++ conn_shapes b n c) after → IsSitting b (with_conn lists n c) after
  sitting_next c after next stands =
      let walk = next.connection in
      record {
        board = h.board;
        state = joined_state b lists n c next.ground _ _ h.board h.state known next.lacks next.is_ground walk;
        within = with_within c (conn_within b h.board (state_shapes b lists) n next.ground next.is_ground c walk.well_formed walk.walk.walk);
        stands = stands_for_members b (state_shapes b lists ++ conn_shapes b n c) (state_shapes b (with_conn lists n c)) after stands
            (λ s.
            let both = parts (state_shapes b lists) (conn_shapes b n c) s in
            let shapes = shapes_with_conn b lists n c s net_listed in
            (λ k. shapes.1 (both.0 k), λ k. both.1 (shapes.0 k)));
      }

  -- a session goes on without the net's connections, where the planes stand for what stays
  pub sitting_without : (after : PlaneTable) → StandsFor b (state_shapes b (without_conns lists n)) after → IsSitting b (without_conns lists n) after
  sitting_without after stands = record {
    board = h.board;
    state = removed_state b lists n h.board h.state known;
    within = All-set (All (IsWithin b)) lists n.0 [] (All-nil (IsWithin b)) h.within;
    stands = stands;
  }

  -- the planes stand for the shapes that stay and those of the net's connections
  pub stands_in_parts : StandsFor b (state_shapes b (without_conns lists n) ++ flat_map (conn_shapes b n) (conns_of lists n)) set
  stands_in_parts =
      stands_for_members b (state_shapes b lists) (state_shapes b (without_conns lists n) ++ flat_map (conn_shapes b n) (conns_of lists n)) set h.stands
      (λ s.
      let both = parts (state_shapes b (without_conns lists n)) (flat_map (conn_shapes b n) (conns_of lists n)) s in
      let shapes = shapes_without_conns b lists n s net_listed in
      (λ k. both.1 (shapes.0 k), λ k. shapes.1 (both.0 k)))

  pub own_known : All (IsKnown b) (flat_map (conn_shapes b n) (conns_of lists n))
  own_known =
      All-flat_map (IsKnown b) (conn_shapes b n) (conns_of lists n)
      (All-weaker (IsWellFormed b) (λ c. All (IsKnown b) (conn_shapes b n c)) (conn_known b h.board n known) _ own_well_formed)

-- each shape of the net's connections is the net's
pub conns_owned : (b : BoardParts) (n : NetId) (conns : List Conn) → All (λ (s : Shape). IsSome s.owner) (flat_map (conn_shapes b n) conns)
conns_owned b n [] = All-nil (λ (s : Shape). IsSome s.owner)
conns_owned b n (c ∷ cs) =
    All-append (λ (s : Shape). IsSome s.owner) (conn_shapes b n c) (flat_map (conn_shapes b n) cs)
    (All-weaker (λ (s : Shape). s.owner ≡ Some n) (λ s. IsSome s.owner) (λ s e. subst (λ (o : Option NetId). IsSome o) (sym e) (search rules)) _ (legs_owned b n c.start c.legs))
    (conns_owned b n cs)

-- the net's next connection is a walk that joins its next pin, where the net has such a pin
pub next_walk : (b : BoardParts) (lists : List (List Conn)) (n : NetId) (k : ℕ) (m : Made1) → k ≡ next_number lists n → k < length (pins_of b n) → IsNextConnection b lists n m → IsNextWalk b lists n m.conn
next_walk b lists n k m e l next = record { lacks = omega arith; ground = next.ground; is_ground = next.is_ground; connection = next.least.connection }

-- where none is named that has no route, the net's next connection was made
pub turn_made : (b : BoardParts) (n : NetId) (old : List (List Conn)) (before : List Made1) (f : Option Fail) (new : List (List Conn)) (after : List Made1) → is_some f ≡ false → IsTurn b n old before f new after → IsOneMore b n old before new after
turn_made b n old before None new after e h = h
turn_made b n old before (Some f) new after e h = absurd (false≢true (sym e))

module _ (b : BoardParts) (n : NetId) (mid : List (List Conn)) (before : List Made1) (new : List (List Conn)) (after : List Made1) (h : IsOneMore b n mid before new after) where
  pub made_on : (old : List (List Conn)) → AreMadeInTurn b old n before mid → AreMadeInTurn b old n after new
  made_on old turns =
      let more : AreMadeInTurn b old n (before ++ h.made ∷ []) (with_conn mid n h.made.conn) = made-next b n old mid before h.made turns h.next in
      subst (λ (ms : List Made1). AreMadeInTurn b old n ms new) (sym h.listed)
      (subst (λ (ls : List (List Conn)). AreMadeInTurn b old n (before ++ h.made ∷ []) ls) (sym h.appended) more)

  pub number_on : n.0 < length mid → next_number new n ≡ next_number mid n + 1
  number_on l =
      let same : length (conns_of new n) ≡ length (conns_of (with_conn mid n h.made.conn) n) = ap (λ (ls : List (List Conn)). length (conns_of ls n)) h.appended in
      omega (arith, length-with_conn b mid n h.made.conn l)

  pub count_on : length after ≡ length before + 1
  count_on = length_pushed before h.made after h.listed
