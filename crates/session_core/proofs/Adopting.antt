-- Taking up connections one after another, and giving a net back those that it had.
use Rattle.std.proofs.Common.{◌≡◌, ◌<◌, ℕ, ◌+◌, List, [], ◌∷◌, ◌++◌, Option, Some, None, Result, Ok, Err, IfOk, IfSome, IfNone, length, take, get_or, set, sym, ◌∙◌, ap, subst, refl, append_assoc}
use Rattle.std.specs.List.{flat_map}
use Rattle.std.proofs.lemmas.List.{take_more, set-set, set-get_or, get_or-set_same}
use Rattle.std.proofs.lemmas.Option.{slice_get_read}
use Rattle.geo_rect.specs.declared.ids.NetId.{NetId}
use Rattle.geo_rect.specs.declared.ids.Spot.{Spot}
use Rattle.board_model.specs.declared.made.Conn.{Conn}
use Rattle.board_parts.specs.declared.parts.BoardParts.{BoardParts}
use Rattle.board_model.specs.Boxes.{source_boxes, target_boxes}
use Rattle.board_model.specs.Made.{conns_of, with_conn, without_conns}
use Rattle.board_parts.specs.Rules.{IsBoard}
use Rattle.board_model.specs.Shapes.{conn_shapes, state_shapes}
use Rattle.plane_set.specs.Standing.{PlaneTable, StandsFor}
use Rattle.plane_set.proofs.Standing.{stands_for_members}
use Rattle.route_law.specs.Joins.{IsConnection}
use Rattle.route_law.specs.Routing.{conns_needed, next_number, next_targets}
use Rattle.step_laws.proofs.Shapes.{shapes_without_conns}
use Rattle.strip_moves.specs.Grounds.{ground_of}
use Rattle.strip_moves.proofs.OfShapes.{ground_of_shapes}
use Rattle.walk_check.specs.Corners.{IsFirstBadCorner}
use Rattle.session_core.specs.Adopting.{IsNextWalk, IsRefusedHere, bad, IsVerdict, IsTakenOne, AreWalksInTurn, IsFirstRefused}
use Rattle.session_core.specs.Sessions.{IsSitting}
use Rattle.session_core.proofs.Turning.{parts, net_listed}

-- what two facts of a value give
pub ok_by_both : {X Y : Type 0} (r : Result X Y) (P Q R : X → Type 0) → ((x : X) → P x → Q x → R x) → IfOk r P → IfOk r Q → IfOk r R
ok_by_both (Ok x) P Q R f h k = f x h k
ok_by_both (Err e) P Q R f h k = tt

module _ (b : BoardParts) (lists : List (List Conn)) (set : PlaneTable) (n : NetId) (board : IsBoard b) (known : n.0 < length b.net_names) (stands : StandsFor b (state_shapes b lists) set) (c : Conn) (lacks : length (conns_of lists n) < conns_needed b n) where
  -- the first bad corner is told, or that there is none
  abbrev Tells : List Spot → List Spot → Option ℕ → Type 0
  Tells sources targets told =
      IfSome told (λ k. IsFirstBadCorner b (ground_of b set n) c sources targets k) × IfNone told (IsConnection b (ground_of b set n) c sources targets)

  own_verdict : (told : Option ℕ) → Tells (source_boxes b lists n) (next_targets b lists n) told → IsVerdict b lists n c told
  own_verdict None h = record {
    lacks = lacks;
    ground = ground_of b set n;
    is_ground = ground_of_shapes b board n known (state_shapes b lists) set stands;
    connection = h.1;
  }
  own_verdict (Some k) h = bad lacks (ground_of b set n) (ground_of_shapes b board n known (state_shapes b lists) set stands) h.0

  -- the first bad corner on the planes of a state is where the connection is refused in it
  pub verdict_of : (sources targets : List Spot) (k : ℕ) (told : Option ℕ) → sources ≡ source_boxes b lists n → targets ≡ target_boxes b n k → k ≡ next_number lists n
      → IfSome told (λ j. IsFirstBadCorner b (ground_of b set n) c sources targets j) → IfNone told (IsConnection b (ground_of b set n) c sources targets) → IsVerdict b lists n c told
  verdict_of sources targets k told from to number some none =
      let of_sources : Tells (source_boxes b lists n) targets told = subst (λ (s : List Spot). Tells s targets told) from (some, none) in
      let of_targets : Tells (source_boxes b lists n) (target_boxes b n k) told = subst (λ (t : List Spot). Tells (source_boxes b lists n) t told) to of_sources in
      own_verdict told (subst (λ (j : ℕ). Tells (source_boxes b lists n) (target_boxes b n j) told) number of_targets)

-- one more walk goes on from where those before it ended
walks-next : (b : BoardParts) (n : NetId) (old mid : List (List Conn)) (cs : List Conn) (c : Conn) → AreWalksInTurn b old n cs mid → IsNextWalk b mid n c → AreWalksInTurn b old n (cs ++ c ∷ []) (with_conn mid n c)
walks-next b n old mid [] c h k =
    (subst (λ (state : List (List Conn)). IsNextWalk b state n c) h k, ap (λ (state : List (List Conn)). with_conn state n c) h)
walks-next b n old mid (x ∷ cs) c h k = (h.0, walks-next b n (with_conn old n x) mid cs c h.1 k)

module _ (b : BoardParts) (n : NetId) (old mid new : List (List Conn)) (conns : List Conn) (i : ℕ) (c : Conn) (l : i < length conns) (is : c ≡ get_or conns i c) (before : AreWalksInTurn b old n (take i conns) mid) where
  pub walks_more : IsNextWalk b mid n c × (new ≡ with_conn mid n c) → AreWalksInTurn b old n (take (i + 1) conns) new
  walks_more h =
      let more : take (i + 1) conns ≡ take i conns ++ c ∷ [] = take_more conns i c l ∙ ap (λ (x : Conn). take i conns ++ x ∷ []) (sym is) in
      subst (λ (cs : List Conn). AreWalksInTurn b old n cs new) (sym more)
      (subst (λ (ls : List (List Conn)). AreWalksInTurn b old n (take i conns ++ c ∷ []) ls) (sym h.1) (walks-next b n old mid (take i conns) c before h.0))

  pub first_refused : (k : ℕ) → IsRefusedHere b mid n c k × (new ≡ mid) → IsFirstRefused b old n conns new i k
  first_refused k h = record {
    conn = c;
    numbered = slice_get_read conns (length conns) i c refl l is;
    before = subst (λ (ls : List (List Conn)). AreWalksInTurn b old n (take i conns) ls) (sym h.1) before;
    refused = subst (λ (ls : List (List Conn)). IsRefusedHere b ls n c k) (sym h.1) h.0;
  }

-- the connections of the other nets stay
pub walks_others : (b : BoardParts) (n : NetId) (old new : List (List Conn)) (cs : List Conn) → AreWalksInTurn b old n cs new → without_conns new n ≡ without_conns old n
walks_others b n old new [] h = ap (λ (ls : List (List Conn)). without_conns ls n) h
walks_others b n old new (c ∷ cs) h = walks_others b n (with_conn old n c) new cs h.1 ∙ set-set old n.0 (conns_of old n ++ c ∷ []) []

-- where only the net's connections differ, the old ones in their place give the old state
pub old_again : (n : NetId) (old new : List (List Conn)) (before : List Conn) → without_conns new n ≡ without_conns old n → before ≡ conns_of old n → set new n.0 before ≡ old
old_again n old new before e own =
    sym (set-set new n.0 [] before) ∙ ap (λ (ls : List (List Conn)). set ls n.0 before) e ∙ set-set old n.0 [] before
    ∙ ap (λ (cs : List Conn). set old n.0 cs) own ∙ set-get_or old n.0 []

-- to append connections to none gives them in place of those that were removed
pub in_place : (n : NetId) (old ripped new : List (List Conn)) (before : List Conn) → n.0 < length old → ripped ≡ without_conns old n → new ≡ set ripped n.0 (conns_of ripped n ++ before) → new ≡ set old n.0 before
in_place n old ripped new before l e f =
    f ∙ ap (λ (ls : List (List Conn)). set ls n.0 (conns_of ls n ++ before)) e
    ∙ ap (λ (cs : List Conn). set (without_conns old n) n.0 (cs ++ before)) (get_or-set_same old n.0 [] [] l)
    ∙ set-set old n.0 [] before

-- one more connection is appended
pub append_more : (n : NetId) (old mid new : List (List Conn)) (conns : List Conn) (i : ℕ) (x : Conn) → n.0 < length old → i < length conns → x ≡ get_or conns i x → mid ≡ set old n.0 (conns_of old n ++ take i conns) → new ≡ with_conn mid n x → new ≡ set old n.0 (conns_of old n ++ take (i + 1) conns)
append_more n old mid new conns i x l k is e f =
    let so_far : List Conn = conns_of old n ++ take i conns in
    let more : take (i + 1) conns ≡ take i conns ++ x ∷ [] = take_more conns i x k ∙ ap (λ (y : Conn). take i conns ++ y ∷ []) (sym is) in
    f ∙ ap (λ (ls : List (List Conn)). with_conn ls n x) e
    ∙ ap (λ (cs : List Conn). set (set old n.0 so_far) n.0 (cs ++ x ∷ [])) (get_or-set_same old n.0 so_far [] l)
    ∙ set-set old n.0 so_far (so_far ++ x ∷ [])
    ∙ ap (λ (cs : List Conn). set old n.0 cs) (append_assoc (conns_of old n) (take i conns) (x ∷ []) ∙ ap (λ (cs : List Conn). conns_of old n ++ cs) (sym more))

-- planes that stand for what is left and for the connections in their place stand for the session
pub sitting_back : (b : BoardParts) (n : NetId) (old : List (List Conn)) (before : List Conn) (first after : PlaneTable) → n.0 < length b.net_names → n.0 < length old → IsSitting b (set old n.0 before) first
    → StandsFor b (state_shapes b (without_conns old n) ++ flat_map (conn_shapes b n) before) after → IsSitting b (set old n.0 before) after
sitting_back b n old before first after known l h stands =
    let lists : List (List Conn) = set old n.0 before in
    let left : without_conns lists n ≡ without_conns old n = set-set old n.0 before [] in
    let own : conns_of lists n ≡ before = get_or-set_same old n.0 before [] l in
    let rest : StandsFor b (state_shapes b (without_conns lists n) ++ flat_map (conn_shapes b n) before) after = subst (λ (ls : List (List Conn)). StandsFor b (state_shapes b ls ++ flat_map (conn_shapes b n) before) after) (sym left) stands in
    let both : StandsFor b (state_shapes b (without_conns lists n) ++ flat_map (conn_shapes b n) (conns_of lists n)) after = subst (λ (cs : List Conn). StandsFor b (state_shapes b (without_conns lists n) ++ flat_map (conn_shapes b n) cs) after) (sym own) rest in
    record {
      board = h.board;
      state = h.state;
      within = h.within;
      stands = stands_for_members b (state_shapes b (without_conns lists n) ++ flat_map (conn_shapes b n) (conns_of lists n)) (state_shapes b lists) after both
          (λ s.
          let split = parts (state_shapes b (without_conns lists n)) (flat_map (conn_shapes b n) (conns_of lists n)) s in
          let shapes = shapes_without_conns b lists n s (net_listed b lists n first h known) in
          (λ k. shapes.1 (split.0 k), λ k. split.1 (shapes.0 k)));
    }

-- after a refusal the old connections in their place give the old state
pub refused_again : (b : BoardParts) (n : NetId) (old mid : List (List Conn)) (conns : List Conn) (i k : ℕ) (before : List Conn) → IsFirstRefused b old n conns mid i k → before ≡ conns_of old n → set mid n.0 before ≡ old
refused_again b n old mid conns i k before h own = old_again n old mid before (walks_others b n old mid (take i conns) h.before) own

-- where no corner is named the connection was appended
pub taken_none : (b : BoardParts) (old : List (List Conn)) (n : NetId) (c : Conn) (told : Option ℕ) (new : List (List Conn)) → ((k : ℕ) → told ≡ Some k → ⊥) → IsTakenOne b old n c told new → IsNextWalk b old n c × (new ≡ with_conn old n c)
taken_none b old n c None new none h = h
taken_none b old n c (Some k) new none h = absurd (none k refl)
