-- Connections that were made one after another are walks one after another, so that a session refuses none.
use Rattle.std.proofs.Common.{ℕ, zero, suc, ◌≡◌, ◌+◌, ◌<◌, ◌≤◌, List, [], ◌∷◌, ◌++◌, length, take, map, Some, sym, subst, arith}
use Rattle.std.specs.Prelude.{slice_get}
use Rattle.std.proofs.lemmas.List.{length-set}
use Rattle.std.proofs.lemmas.Option.{same_Some}
use Rattle.geo_rect.specs.declared.ids.NetId.{NetId}
use Rattle.geo_rect.specs.declared.ids.Node.{Node}
use Rattle.geo_rect.specs.declared.ids.Spot.{Spot}
use Rattle.board_model.specs.declared.made.Conn.{Conn}
use Rattle.board_model.specs.declared.made.Leg.{Leg}
use Rattle.board_parts.specs.declared.parts.BoardParts.{BoardParts}
use Rattle.board_model.specs.Made.{conns_of, with_conn}
use Rattle.board_model.specs.Shapes.{end_of, state_shapes}
use Rattle.board_model.specs.WellFormed.{AreSteps, up}
use Rattle.route_law.specs.declared.replies.Made1.{Made1}
use Rattle.route_law.specs.declared.replies.Routed.{Routed}
use Rattle.route_law.specs.Connections.{steps_of}
use Rattle.route_law.specs.Ground.{Ground}
use Rattle.route_law.specs.Joins.{IsConnection}
use Rattle.route_law.specs.Kept.{IsState}
use Rattle.route_law.specs.Routing.{AreMadeInTurn, IsNextConnection, IsRouted, conns_needed, next_targets}
use Rattle.board_model.specs.Boxes.{source_boxes}
use Rattle.route_law.specs.Walks.{HasNode}
use Rattle.route_law.proofs.Law.{first_passable}
use Rattle.route_law.proofs.Legs.{legs_end}
use Rattle.replay_check.proofs.Alike.{connection_too, grounds_alike}
use Rattle.session_core.specs.Adopting.{AreAdopted, AreWalksInTurn, IsFirstRefused, IsRefusedHere, bad, complete}
use Rattle.session_core.specs.declared.adopts.Adopted.{Adopted}
use Rattle.session_core.specs.declared.adopts.Adopted.TheVariants.{Kept, Refused}
use Rattle.step_laws.proofs.Keeping.{length-with_conn, no_more}
use Rattle.step_laws.proofs.Legs.{AreClear, legs_clear}
use Rattle.walk_check.specs.Corners.{IsGoodCorner, IsGoodLeg, corner_after}
use Rattle.auto_route.specs.States.{after_net, with_made}

-- the connections without their certificates
abbrev pub conns_in : List Made1 → List Conn
conns_in ms = map (λ (m : Made1). m.conn) ms

module _ (b : BoardParts) (g : Ground) where
  good_at : (v : Node) (legs : List Leg) (m : ℕ) (leg : Leg) → AreSteps b v legs → AreClear g v legs → slice_get legs m ≡ Some leg → IsGoodLeg b g (corner_after v legs m) leg
  good_at v [] m leg s h e = cc
  good_at v (x ∷ xs) zero leg s h e =
      let one : IsGoodLeg b g v x = record { step = s.0; clear = h.0 } in
      subst (λ (y : Leg). IsGoodLeg b g v y) (same_Some x leg e) one
  good_at v (x ∷ xs) (suc m) leg s h e = good_at (end_of x) xs m leg s.1 h.2 e

  -- each corner of a connection is good
  corners_good : (conn : Conn) (sources targets : List Spot) → IsConnection b g conn sources targets → (k : ℕ) → IsGoodCorner b g conn sources targets k
  corners_good conn sources targets h k =
      let steps = h.well_formed.steps in
      let clear : AreClear g conn.start conn.legs = legs_clear b g conn.start conn.legs steps h.walk.walk in
      record {
        at_start = λ e. record { listed = h.walk.starts; passable = first_passable g conn.start (steps_of conn) h.walk.walk };
        of_leg = λ m leg e f. good_at conn.start conn.legs m leg steps clear f;
        at_end = λ e. subst (λ (v : Node). HasNode targets v) (legs_end b conn.start conn.legs steps) h.walk.ends;
        of_cost = λ e. h.cost;
      }

module _ (b : BoardParts) (n : NetId) where
  -- a next connection is refused nowhere
  refused_never : (lists : List (List Conn)) (m : Made1) (c : Conn) (k : ℕ) → c ≡ m.conn → length (conns_of lists n) < conns_needed b n → IsNextConnection b lists n m → IsRefusedHere b lists n c k → ⊥
  refused_never lists m c k is l next (complete few first) = omega (arith, few, l)
  refused_never lists m c k is l next (bad lacks g of h) =
      let same = grounds_alike b (state_shapes b lists) n next.ground g next.is_ground of in
      let there : IsConnection b g m.conn (source_boxes b lists n) (next_targets b lists n) = connection_too next.ground g same b m.conn (source_boxes b lists n) (next_targets b lists n) next.least.connection in
      let here : IsConnection b g c (source_boxes b lists n) (next_targets b lists n) = subst (λ (x : Conn). IsConnection b g x (source_boxes b lists n) (next_targets b lists n)) (sym is) there in
      h.bad (corners_good b g c (source_boxes b lists n) (next_targets b lists n) here k)

  -- of connections that were made one after another, none is the first that is refused
  none_refused : (old mid new : List (List Conn)) (ms : List Made1) (i k : ℕ) (c : Conn) → n.0 < length old → length (conns_of old n) + length ms ≤ conns_needed b n → AreMadeInTurn b old n ms new
      → slice_get (conns_in ms) i ≡ Some c → AreWalksInTurn b old n (take i (conns_in ms)) mid → IsRefusedHere b mid n c k → ⊥
  none_refused old mid new [] i k c l few made e before refused = cc
  none_refused old mid new (m ∷ ms) zero k c l few made e before refused =
      let here : IsRefusedHere b old n c k = subst (λ (ls : List (List Conn)). IsRefusedHere b ls n c k) before refused in
      refused_never old m c k (sym (same_Some m.conn c e)) (omega (arith, few)) made.0 here
  none_refused old mid new (m ∷ ms) (suc i) k c l few made e before refused =
      let size = length-with_conn b old n m.conn l in
      none_refused (with_conn old n m.conn) mid new ms i k c (omega (arith, l, length-set old n.0 (conns_of old n ++ m.conn ∷ []))) (omega (arith, few, size)) made.1 e before.1 refused

-- the connections are appended one after another
walks_are : (b : BoardParts) (old : List (List Conn)) (n : NetId) (ms : List Made1) (new : List (List Conn)) → AreWalksInTurn b old n (conns_in ms) new → new ≡ with_made old n ms
walks_are b old n [] new h = h
walks_are b old n (m ∷ ms) new h = walks_are b (with_conn old n m.conn) n ms new h.1

module _ (b : BoardParts) (old : List (List Conn)) (r : Routed) (new : List (List Conn)) (state : IsState b old) (routed : IsRouted b old r new) where
  -- no more connections were made than the net lacked
  few_made : length (conns_of old r.net) + length r.made ≤ conns_needed b r.net
  few_made =
      omega (arith, no_more b new r.net r.missing (length r.made) r.none routed.rest, routed.missing, state.kept.few r.net routed.net)

  pub given_all : (after : List (List Conn)) → AreWalksInTurn b old r.net (conns_in r.made) after → after ≡ after_net old r
  given_all after h = walks_are b old r.net r.made after h

  pub given_never : (mid : List (List Conn)) (i k : ℕ) → IsFirstRefused b old r.net (conns_in r.made) mid i k → ⊥
  given_never mid i k h =
      none_refused b r.net old mid new r.made i k h.conn (omega (arith, routed.net, state.nets)) few_made routed.made h.numbered h.before h.refused

  -- what is taken up is appended
  pub given_kept : (conns : List Conn) (done : Adopted) (after : List (List Conn)) → conns ≡ conns_in r.made → AreAdopted b old r.net conns done after → done ≡ Kept → after ≡ after_net old r
  given_kept conns done after e h is =
      let P : Adopted → Type 0 = λ d. AreAdopted b old r.net conns d after in
      let Q : List Conn → Type 0 = λ cs. AreWalksInTurn b old r.net cs after in
      let taken : AreWalksInTurn b old r.net conns after = subst P is h in
      given_all after (subst Q e taken)

  -- and none is refused
  pub given_refused : (conns : List Conn) (done : Adopted) (after : List (List Conn)) (i k : ℕ) → conns ≡ conns_in r.made → AreAdopted b old r.net conns done after → done ≡ Refused i k → ⊥
  given_refused conns done after i k e h is =
      let P : Adopted → Type 0 = λ d. AreAdopted b old r.net conns d after in
      let Q : List Conn → List (List Conn) → Type 0 = λ cs mid. IsFirstRefused b old r.net cs mid i k in
      let first : ((mid : List (List Conn)) × IsFirstRefused b old r.net conns mid i k) × (after ≡ old) = subst P is h in
      given_never first.0.0 i k (subst (λ (cs : List Conn). Q cs first.0.0) e first.0.1)
