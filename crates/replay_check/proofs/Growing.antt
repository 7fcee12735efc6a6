-- What a state under way becomes where a connection is made, and where a net's connections are removed.
use Rattle.std.proofs.Common.{◌≡◌, ◌+◌, ◌<◌, ◌≤◌, ◌⊎◌, inl, inr, List, [], ◌∷◌, ◌++◌, length, get_or, All, Contains, refl, sym, ◌∙◌, ap, subst, arith, length-append}
use Rattle.std.specs.Prelude.{IsSome}
use Rattle.std.specs.List.{flat_map}
use Rattle.std.proofs.lemmas.Bool.{cases_lt}
use Rattle.std.proofs.lemmas.List.{get_or_past, get_or-set_same, length-set}
use Rattle.std.proofs.lemmas.List.Elements.{All-nil, All-cons, All-append, All-get_or, All-map, All-set, All-weaker, Contains-append_left, Contains-append_right, Contains-append_cases}
use Rattle.geo_rect.specs.declared.ids.NetId.{NetId}
use Rattle.geo_rect.specs.declared.ids.Node.{Node}
use Rattle.board_model.specs.declared.made.Conn.{Conn}
use Rattle.board_model.specs.declared.made.Leg.{Leg}
use Rattle.board_model.specs.declared.made.Leg.TheVariants.{Wire, Via}
use Rattle.board_parts.specs.declared.parts.BoardParts.{BoardParts}
use Rattle.board_model.specs.declared.shapes.Shape.{Shape}
use Rattle.board_model.specs.Known.{IsKnown}
use Rattle.board_parts.specs.Lookup.{rule_of, kind_of, class_of, layers_from}
use Rattle.board_model.specs.Made.{conns_of, with_conn, without_conns}
use Rattle.board_parts.specs.Rules.{IsBoard}
use Rattle.board_model.specs.Segments.{segment}
use Rattle.board_model.specs.Shapes.{board_shapes, conn_shapes, legs_shapes, leg_shapes, state_shapes, net_shape, via_shape, place_of, end_of}
use Rattle.board_model.specs.WellFormed.{IsWellFormed, AreWellFormed}
use Rattle.board_model.proofs.MadeShapes.{conn_known}
use Rattle.board_model.proofs.StateShapes.{All-flat_map, only_the_board}
use Rattle.plane_set.specs.Standing.{PlaneTable, StandsFor}
use Rattle.plane_set.proofs.Standing.{stands_for_members}
use Rattle.step_laws.proofs.Shapes.{shapes_with_conn, shapes_without_conns}
use Rattle.replay_check.specs.States.{IsBoardConn, IsUnderWay}

-- each net has connections of a property where each list is of such
conns_all : (P : Conn → Type 0) (lists : List (List Conn)) (n : NetId) → All (All P) lists → All P (conns_of lists n)
conns_all P lists n h = by (cases_lt n.0 (length lists))
  where
    by : (n.0 < length lists) ⊎ (length lists ≤ n.0) → All P (get_or lists n.0 [])
    by (inl l) = All-get_or (All P) lists n.0 [] l h
    by (inr l) = subst (All P) (sym (get_or_past lists n.0 [] l)) (All-nil P)

with_all : (P : Conn → Type 0) (lists : List (List Conn)) (n : NetId) (c : Conn) → All (All P) lists → P c → All (All P) (with_conn lists n c)
with_all P lists n c h k =
    All-set (All P) lists n.0 (conns_of lists n ++ c ∷ []) (All-append P (conns_of lists n) (c ∷ []) (conns_all P lists n h) (All-cons P c [] k (All-nil P))) h

without_all : (P : Conn → Type 0) (lists : List (List Conn)) (n : NetId) → All (All P) lists → All (All P) (without_conns lists n)
without_all P lists n h = All-set (All P) lists n.0 [] (All-nil P) h

-- a net has one connection more where one is made
pub one_conn_more : (lists : List (List Conn)) (n : NetId) (c : Conn) → n.0 < length lists → length (conns_of (with_conn lists n c) n) ≡ length (conns_of lists n) + 1
one_conn_more lists n c l =
    ap (λ (cs : List Conn). length cs) (get_or-set_same lists n.0 (conns_of lists n ++ c ∷ []) [] l) ∙ length-append (conns_of lists n) (c ∷ [])

module _ (b : BoardParts) (lists : List (List Conn)) (set : PlaneTable) (state : IsUnderWay b lists set) (n : NetId) (known : n.0 < length b.net_names) where
  pub in_lists : n.0 < length lists
  in_lists = omega (arith, state.nets, known)

  pub net_well_formed : All (IsWellFormed b) (conns_of lists n)
  net_well_formed = conns_all (IsWellFormed b) lists n state.well_formed

  pub net_on_board : All (IsBoardConn b) (conns_of lists n)
  net_on_board = conns_all (IsBoardConn b) lists n state.on_board

  module _ (c : Conn) (new : PlaneTable) where
    to_new : (s : Shape) → Contains (state_shapes b lists ++ conn_shapes b n c) s → Contains (state_shapes b (with_conn lists n c)) s
    to_new s h = (shapes_with_conn b lists n c s in_lists).1 (Contains-append_cases (state_shapes b lists) (conn_shapes b n c) s h)

    joined : (s : Shape) → Contains (state_shapes b lists) s ⊎ Contains (conn_shapes b n c) s → Contains (state_shapes b lists ++ conn_shapes b n c) s
    joined s (inl h) = Contains-append_left (state_shapes b lists) (conn_shapes b n c) s h
    joined s (inr h) = Contains-append_right (state_shapes b lists) (conn_shapes b n c) s h

    pub with_one : IsWellFormed b c → IsBoardConn b c → StandsFor b (state_shapes b lists ++ conn_shapes b n c) new → IsUnderWay b (with_conn lists n c) new
    with_one form there stands = record {
      nets = length-set lists n.0 (conns_of lists n ++ c ∷ []) ∙ state.nets;
      well_formed = with_all (IsWellFormed b) lists n c state.well_formed form;
      on_board = with_all (IsBoardConn b) lists n c state.on_board there;
      planes =
          stands_for_members b (state_shapes b lists ++ conn_shapes b n c) (state_shapes b (with_conn lists n c)) new stands
          (λ s. (to_new s, λ h. joined s ((shapes_with_conn b lists n c s in_lists).0 h)));
    }

  abbrev gone : List Shape
  gone = flat_map (conn_shapes b n) (conns_of lists n)

  abbrev stay : List Shape
  stay = state_shapes b (without_conns lists n)

  pub gone_known : IsBoard b → All (IsKnown b) gone
  gone_known board =
      All-flat_map (IsKnown b) (conn_shapes b n) (conns_of lists n)
      (All-weaker (IsWellFormed b) (λ c. All (IsKnown b) (conn_shapes b n c)) (conn_known b board n known) (conns_of lists n) net_well_formed)

  pub stay_and_gone : StandsFor b (stay ++ gone) set
  stay_and_gone =
      stands_for_members b (state_shapes b lists) (stay ++ gone) set state.planes
      (λ s. (λ h. put s ((shapes_without_conns b lists n s in_lists).0 h), λ h. (shapes_without_conns b lists n s in_lists).1 (Contains-append_cases stay gone s h)))
    where
      put : (s : Shape) → Contains stay s ⊎ Contains gone s → Contains (stay ++ gone) s
      put s (inl h) = Contains-append_left stay gone s h
      put s (inr h) = Contains-append_right stay gone s h

  pub without_net : (new : PlaneTable) → StandsFor b stay new → IsUnderWay b (without_conns lists n) new
  without_net new stands = record {
    nets = length-set lists n.0 [] ∙ state.nets;
    well_formed = without_all (IsWellFormed b) lists n state.well_formed;
    on_board = without_all (IsBoardConn b) lists n state.on_board;
    planes = stands;
  }

-- what holds of everything holds of each item
all_so : {A : Type 0} (P : A → Type 0) → ((x : A) → P x) → (xs : List A) → All P xs
all_so P f [] = All-nil P
all_so P f (x ∷ xs) = All-cons P x xs (f x) (all_so P f xs)

-- each shape of a connection is its net's
module _ (b : BoardParts) (n : NetId) where
  abbrev HasOwner : Shape → Type 0
  HasOwner s = IsSome s.owner

  leg_owned : (v : Node) (leg : Leg) → All HasOwner (leg_shapes b n v leg)
  leg_owned v (Wire w) =
      let area = segment (place_of v) (place_of w) (rule_of b w.layer (class_of b n)).half in
      All-cons HasOwner (net_shape n area w.layer) [] refl (All-nil HasOwner)
  leg_owned v (Via k w) =
      let pad = via_shape b n k (place_of w) in
      let layers = layers_from (kind_of b k).first (kind_of b k).last in
      All-map HasOwner pad layers (all_so (λ l. HasOwner (pad l)) (λ l. refl) layers)

  legs_owned : (v : Node) (legs : List Leg) → All HasOwner (legs_shapes b n v legs)
  legs_owned v [] = All-nil HasOwner
  legs_owned v (leg ∷ legs) = All-append HasOwner (leg_shapes b n v leg) (legs_shapes b n (end_of leg) legs) (leg_owned v leg) (legs_owned (end_of leg) legs)

  pub all_owned : (conns : List Conn) → All HasOwner (flat_map (conn_shapes b n) conns)
  all_owned [] = All-nil HasOwner
  all_owned (c ∷ conns) = All-append HasOwner (conn_shapes b n c) (flat_map (conn_shapes b n) conns) (legs_owned c.start c.legs) (all_owned conns)

-- where nothing is made, the planes of the board alone stand for the state
pub nothing_under_way : (b : BoardParts) (lists : List (List Conn)) (set : PlaneTable) → length lists ≡ length b.net_names → AreWellFormed b lists → All (λ (conns : List Conn). conns ≡ []) lists → StandsFor b (board_shapes b) set → IsUnderWay b lists set
nothing_under_way b lists set nets form none stands = record {
  nets = nets;
  well_formed = form;
  on_board =
      All-weaker (λ (conns : List Conn). conns ≡ []) (All (IsBoardConn b))
      (λ conns e. subst (All (IsBoardConn b)) (sym e) (All-nil (IsBoardConn b))) lists none;
  planes = subst (λ (shapes : List Shape). StandsFor b shapes set) (sym (only_the_board b lists none)) stands;
}
