-- Each step of a command leads from a state to a state.
use Rattle.std.proofs.Common.{ℕ, ◌≡◌, ◌+◌, ◌<◌, ◌≤◌, ◌⊎◌, inl, inr, List, [], ◌∷◌, ◌++◌, length, get_or, Option, Some, None, Contains, All, refl, sym, ap, subst, ◌∙◌, arith}
use Rattle.std.proofs.lemmas.Bool.{cases_eq}
use Rattle.std.proofs.lemmas.List.{length-append, length-set, get_or-set_same, get_or-set_other}
use Rattle.std.proofs.lemmas.List.Elements.{All-nil, All-cons, All-head, All-tail, All-append, All-map, All-push, All-set, All-get_or, All-contains, Contains-append_right}
use Rattle.geo_rect.specs.declared.ids.NetId.{NetId}
use Rattle.geo_rect.specs.declared.ids.Node.{Node}
use Rattle.geo_rect.specs.declared.ids.Spot.{Spot}
use Rattle.board_parts.specs.declared.commands.Command.{Command}
use Rattle.board_model.specs.declared.made.Conn.{Conn}
use Rattle.board_model.specs.declared.made.Leg.{Leg}
use Rattle.board_model.specs.declared.made.Leg.TheVariants.{Wire, Via}
use Rattle.board_parts.specs.declared.parts.BoardParts.{BoardParts}
use Rattle.board_model.specs.declared.shapes.Shape.{Shape}
use Rattle.board_parts.specs.Commands.{IsCommandOf}
use Rattle.board_model.specs.Known.{IsKnown}
use Rattle.board_model.specs.Made.{conns_of, with_conn, without_conns}
use Rattle.board_parts.specs.Rules.{IsBoard}
use Rattle.board_model.specs.Shapes.{end_of, leg_shapes, legs_shapes, conn_shapes, made_shapes, board_shapes, state_shapes}
use Rattle.board_model.specs.WellFormed.{IsWellFormed}
use Rattle.board_model.proofs.MadeShapes.{conn_known, state_known}
use Rattle.board_model.proofs.WellFormed.{with_conn_well_formed}
use Rattle.route_law.specs.declared.replies.Fail.{Fail}
use Rattle.route_law.specs.declared.replies.Made1.{Made1}
use Rattle.route_law.specs.declared.replies.Reply.{Reply}
use Rattle.route_law.specs.declared.replies.Reply.TheVariants as reply
use Rattle.route_law.specs.declared.replies.Routed.{Routed}
use Rattle.route_law.specs.Boards.{IsGroundOf}
use Rattle.route_law.specs.Ground.{Ground}
use Rattle.route_law.specs.Joins.{IsConnection}
use Rattle.route_law.specs.Kept.{KeepsRules, KeepsOff, IsKept, IsState}
use Rattle.route_law.specs.Regular.{IsRegularConn}
use Rattle.route_law.specs.Routing.{IsNextConnection, AreMadeInTurn, IsDoneOrStuck, IsRouted, AreRoutedFrom, conns_needed}
use Rattle.route_law.specs.Steps.{IsStep, IsAnswer, IsRunFrom, command_of}
use Rattle.step_laws.proofs.Corners.{conn_regular}
use Rattle.step_laws.proofs.Legs.{legs_clear, legs_keep, legs_keep_off}
use Rattle.step_laws.proofs.Pairs.{AreClose, close_back}
use Rattle.step_laws.proofs.Shapes.{shapes_with_conn, shapes_without_conns, made_with_conn, made_without_conns}

-- each shape of a net's connection is the net's
pub legs_owned : (b : BoardParts) (n : NetId) (v : Node) (legs : List Leg) → All (λ (s : Shape). s.owner ≡ Some n) (legs_shapes b n v legs)
legs_owned b n v [] = All-nil (λ (s : Shape). s.owner ≡ Some n)
legs_owned b n v (leg ∷ legs) =
    All-append (λ (s : Shape). s.owner ≡ Some n) (leg_shapes b n v leg) (legs_shapes b n (end_of leg) legs) (of_leg leg) (legs_owned b n (end_of leg) legs)
  where
    of_leg : (x : Leg) → All (λ (s : Shape). s.owner ≡ Some n) (leg_shapes b n v x)
    of_leg (Wire w) = All-cons (λ (s : Shape). s.owner ≡ Some n) _ [] refl (All-nil (λ (s : Shape). s.owner ≡ Some n))
    of_leg (Via k w) = All-map (λ (s : Shape). s.owner ≡ Some n) _ _ (λ i d l. refl)

-- nets of one number are one
same_net : (k n : NetId) → k.0 ≡ n.0 → n ≡ k
same_net k n e = ap (λ (z : ℕ). let q : NetId = record { 0 = z } in q) (sym e)

-- what a connection keeps that is made next to those of a state: its shapes are known and keep the rules, and
-- it keeps off the keep-outs
record KeepsAll (b : BoardParts) (shapes : List Shape) (n : NetId) (c : Conn) : Type 0 where
  known : All (IsKnown b) (conn_shapes b n c)
  rules : All (KeepsRules b shapes) (conn_shapes b n c)
  keepouts : KeepsOff b n c

module _ (b : BoardParts) (lists : List (List Conn)) (n : NetId) (c : Conn) (l : n.0 < length lists) where
  -- the connections of each net after one more of the net
  pub conns-with_same : conns_of (with_conn lists n c) n ≡ conns_of lists n ++ c ∷ []
  conns-with_same = get_or-set_same lists n.0 (conns_of lists n ++ c ∷ []) [] l

  pub length-with_conn : length (conns_of (with_conn lists n c) n) ≡ length (conns_of lists n) + 1
  length-with_conn = ap length conns-with_same ∙ length-append (conns_of lists n) (c ∷ [])

  -- where the rules are kept, and the new connection keeps them, they stay kept
  module _ (board : IsBoard b) (known : All (IsKnown b) (state_shapes b lists)) (kept : IsKept b lists) (keeps : KeepsAll b (state_shapes b lists) n c) where
    abbrev after : List (List Conn)
    after = with_conn lists n c

    owned_by : (s : Shape) → Contains (conn_shapes b n c) s → s.owner ≡ Some n
    owned_by s m = All-contains (λ (x : Shape). x.owner ≡ Some n) (conn_shapes b n c) s (legs_owned b n c.start c.legs) m

    new : (s : Shape) → Contains (conn_shapes b n c) s → KeepsRules b (state_shapes b lists) s
    new s m = All-contains (KeepsRules b (state_shapes b lists)) (conn_shapes b n c) s keeps.rules m

    old_known : (s : Shape) → Contains (state_shapes b lists) s → IsKnown b s
    old_known s m = All-contains (IsKnown b) (state_shapes b lists) s known m

    new_known : (s : Shape) → Contains (conn_shapes b n c) s → IsKnown b s
    new_known s m = All-contains (IsKnown b) (conn_shapes b n c) s keeps.known m

    old_and_new : (s t : Shape) → Contains (state_shapes b lists) s → Contains (conn_shapes b n c) t → AreClose b s t → ⊥
    old_and_new s t old m h = let k = close_back b board s t (old_known s old) (new_known t m) h in (new t m).gaps s old k.layer k.owner k.close

    new_and_new : (s t : Shape) → Contains (conn_shapes b n c) s → Contains (conn_shapes b n c) t → AreClose b s t → ⊥
    new_and_new s t m k h = h.owner (owned_by t k ∙ sym (owned_by s m))

    gaps_kept : (s t : Shape) → Contains (made_shapes b 0 lists) s ⊎ Contains (conn_shapes b n c) s → Contains (state_shapes b lists) t ⊎ Contains (conn_shapes b n c) t → AreClose b s t → ⊥
    gaps_kept s t (inl m) (inl k) h = (kept.rules s m).gaps t k h.layer h.owner h.close
    gaps_kept s t (inl m) (inr k) h = old_and_new s t (Contains-append_right (board_shapes b) (made_shapes b 0 lists) s m) k h
    gaps_kept s t (inr m) (inl k) h = (new s m).gaps t k h.layer h.owner h.close
    gaps_kept s t (inr m) (inr k) h = new_and_new s t m k h

    rules_kept : (s : Shape) → Contains (made_shapes b 0 after) s → KeepsRules b (state_shapes b after) s
    rules_kept s m =
        let m' : Contains (made_shapes b 0 lists) s ⊎ Contains (conn_shapes b n c) s = (made_with_conn b lists n s l c).0 m in
        record {
          outline = elim m' [ inl old ↦ (kept.rules s old).outline | inr k ↦ (new s k).outline ];
          gaps = λ t k layer owner close. gaps_kept s t m' ((shapes_with_conn b lists n c t l).0 k) (record { layer = layer; owner = owner; close = close });
        }

    other_conns : (k : NetId) → (k.0 ≡ n.0 → ⊥) → conns_of after k ≡ conns_of lists k
    other_conns k e = get_or-set_other lists n.0 k.0 (conns_of lists n ++ c ∷ []) [] e

    keepouts_kept : (k : NetId) → k.0 < length b.net_names → All (KeepsOff b k) (conns_of after k)
    keepouts_kept k i = by (cases_eq k.0 n.0)
      where
        by : (k.0 ≡ n.0) ⊎ (k.0 ≡ n.0 → ⊥) → All (KeepsOff b k) (conns_of after k)
        by (inl e) =
            let own : All (KeepsOff b n) (conns_of lists n) = kept.keepouts n (omega (arith, i, e)) in
            let here : All (KeepsOff b n) (conns_of after n) = subst (All (KeepsOff b n)) (sym conns-with_same) (All-push (KeepsOff b n) (conns_of lists n) c own keeps.keepouts) in
            subst (λ (z : NetId). All (KeepsOff b z) (conns_of after z)) (same_net k n e) here
        by (inr e) = subst (All (KeepsOff b k)) (sym (other_conns k e)) (kept.keepouts k i)

    few_kept : length (conns_of lists n) < conns_needed b n → (k : NetId) → k.0 < length b.net_names → length (conns_of after k) ≤ conns_needed b k
    few_kept few k i = by (cases_eq k.0 n.0)
      where
        by : (k.0 ≡ n.0) ⊎ (k.0 ≡ n.0 → ⊥) → length (conns_of after k) ≤ conns_needed b k
        by (inl e) =
            let here : length (conns_of after n) ≤ conns_needed b n = omega (arith, length-with_conn, few) in
            subst (λ (z : NetId). length (conns_of after z) ≤ conns_needed b z) (same_net k n e) here
        by (inr e) =
            let same : length (conns_of after k) ≡ length (conns_of lists k) = ap length (other_conns k e) in
            omega (arith, same, kept.few k i)

    conn_kept : length (conns_of lists n) < conns_needed b n → IsKept b after
    conn_kept few = record { rules = rules_kept; keepouts = keepouts_kept; few = few_kept few }

-- a walk that joins the net's next pin to what it has is a connection by which the rules stay kept
pub joined_state : (b : BoardParts) (lists : List (List Conn)) (n : NetId) (c : Conn) (g : Ground) (sources targets : List Spot) → IsBoard b → IsState b lists → n.0 < length b.net_names → length (conns_of lists n) < conns_needed b n → IsGroundOf b (state_shapes b lists) n g → IsConnection b g c sources targets → IsState b (with_conn lists n c)
joined_state b lists n c g sources targets h s l few of joined =
    let i : n.0 < length lists = omega (arith, l, s.nets) in
    let clear = legs_clear b g c.start c.legs joined.well_formed.steps joined.walk.walk in
    let known : All (IsKnown b) (state_shapes b lists) = state_known b h lists s.nets s.well_formed in
    let keeps : KeepsAll b (state_shapes b lists) n c = record {
      known = conn_known b h n l c joined.well_formed;
      rules = legs_keep b (state_shapes b lists) n g h l of c.start c.legs clear;
      keepouts = legs_keep_off b (state_shapes b lists) n g h l of c.start c.legs clear;
    } in
    let regular : IsRegularConn b c = conn_regular b (state_shapes b lists) n g h of c joined.well_formed joined.walk.walk in
    record {
      nets = length-set lists n.0 (conns_of lists n ++ c ∷ []) ∙ s.nets;
      well_formed = with_conn_well_formed b lists n c i s.well_formed joined.well_formed;
      regular = All-set (All (IsRegularConn b)) lists n.0 _ (All-push (IsRegularConn b) (conns_of lists n) c (All-get_or (All (IsRegularConn b)) lists n.0 [] i s.regular) regular) s.regular;
      kept = conn_kept b lists n c i h known s.kept keeps few;
    }

pub next_state : (b : BoardParts) (lists : List (List Conn)) (n : NetId) (m : Made1) → IsBoard b → IsState b lists → n.0 < length b.net_names → length (conns_of lists n) < conns_needed b n → IsNextConnection b lists n m → IsState b (with_conn lists n m.conn)
next_state b lists n m h s l few next = joined_state b lists n m.conn next.ground _ _ h s l few next.is_ground next.least.connection

module _ (b : BoardParts) (lists : List (List Conn)) (n : NetId) (l : n.0 < length lists) (kept : IsKept b lists) where
  abbrev cleared : List (List Conn)
  cleared = without_conns lists n

  rules_stay : (s : Shape) → Contains (made_shapes b 0 cleared) s → KeepsRules b (state_shapes b cleared) s
  rules_stay s m =
      let k : KeepsRules b (state_shapes b lists) s = kept.rules s ((made_without_conns b lists n s l).1 (inl m)) in
      record { outline = k.outline; gaps = λ t there. k.gaps t ((shapes_without_conns b lists n t l).1 (inl there)) }

  -- the connections of a net are those that it had, or none
  conns_stay : (k : NetId) → (conns_of cleared k ≡ []) ⊎ (conns_of cleared k ≡ conns_of lists k)
  conns_stay k = elim (cases_eq k.0 n.0) [
    | inl e ↦ inl (ap (λ (z : ℕ). get_or cleared z []) e ∙ get_or-set_same lists n.0 [] [] l)
    | inr e ↦ inr (get_or-set_other lists n.0 k.0 [] [] e)
  ]

  keepouts_stay : (k : NetId) → k.0 < length b.net_names → All (KeepsOff b k) (conns_of cleared k)
  keepouts_stay k i = elim (conns_stay k) [
    | inl e ↦ subst (All (KeepsOff b k)) (sym e) (All-nil (KeepsOff b k))
    | inr e ↦ subst (All (KeepsOff b k)) (sym e) (kept.keepouts k i)
  ]

  few_stay : (k : NetId) → k.0 < length b.net_names → length (conns_of cleared k) ≤ conns_needed b k
  few_stay k i = elim (conns_stay k) [
    | inl e ↦ subst (λ (cs : List Conn). length cs ≤ conns_needed b k) (sym e) (omega arith)
    | inr e ↦ subst (λ (cs : List Conn). length cs ≤ conns_needed b k) (sym e) (kept.few k i)
  ]

  pub removed_kept : IsKept b cleared
  removed_kept = record { rules = rules_stay; keepouts = keepouts_stay; few = few_stay }

pub removed_state : (b : BoardParts) (lists : List (List Conn)) (n : NetId) → IsBoard b → IsState b lists → n.0 < length b.net_names → IsState b (without_conns lists n)
removed_state b lists n h s l =
    let i : n.0 < length lists = omega (arith, l, s.nets) in
    record {
      nets = length-set lists n.0 [] ∙ s.nets;
      well_formed = All-set (All (IsWellFormed b)) lists n.0 [] (All-nil (IsWellFormed b)) s.well_formed;
      regular = All-set (All (IsRegularConn b)) lists n.0 [] (All-nil (IsRegularConn b)) s.regular;
      kept = removed_kept b lists n i s.kept;
    }

-- no more connections are made than are missing
pub no_more : (b : BoardParts) (lists : List (List Conn)) (n : NetId) (missing made : ℕ) (f : Option Fail) → IsDoneOrStuck b lists n missing made f → made ≤ missing
no_more b lists n missing made None e = omega arith
no_more b lists n missing made (Some f) h = let lt = h.0 in omega arith

module _ (b : BoardParts) (h : IsBoard b) where
  made_state : (n : NetId) (old new : List (List Conn)) (ms : List Made1) → n.0 < length b.net_names → IsState b old → length (conns_of old n) + length ms ≤ conns_needed b n → AreMadeInTurn b old n ms new → IsState b new
  made_state n old new [] l s few e = subst (λ (lists : List (List Conn)). IsState b lists) (sym e) s
  made_state n old new (m ∷ ms) l s few made =
      let i : n.0 < length old = omega (arith, l, s.nets) in
      let first : length (conns_of old n) < conns_needed b n = omega (arith, few) in
      let state : IsState b (with_conn old n m.conn) = next_state b old n m h s l first made.0 in
      let more : length (conns_of (with_conn old n m.conn) n) + length ms ≤ conns_needed b n = omega (arith, few, length-with_conn b old n m.conn i) in
      made_state n (with_conn old n m.conn) new ms l state more made.1

  routed_state : (old new : List (List Conn)) (r : Routed) → IsState b old → IsRouted b old r new → IsState b new
  routed_state old new r s routed =
      let done : length r.made ≤ r.missing = no_more b new r.net r.missing (length r.made) r.none routed.rest in
      let few : length (conns_of old r.net) + length r.made ≤ conns_needed b r.net = omega (arith, done, routed.missing, s.kept.few r.net routed.net) in
      made_state r.net old new r.made routed.net s few routed.made

  all_state : (n : ℕ) (old new : List (List Conn)) (rs : List Routed) → IsState b old → AreRoutedFrom b n old rs new → IsState b new
  all_state n old new [] s e = subst (λ (lists : List (List Conn)). IsState b lists) (sym e) s
  all_state n old new (r ∷ rs) s routed =
      all_state (n + 1) routed.1 new rs (routed_state old routed.1 r s routed.2) routed.3

  same_state : (old new : List (List Conn)) → IsState b old → new ≡ old → IsState b new
  same_state old new s e = subst (λ (lists : List (List Conn)). IsState b lists) (sym e) s

  answer_state : (old new : List (List Conn)) (r : Reply) → IsState b old → IsCommandOf b (command_of r) → IsAnswer b old r new → IsState b new
  answer_state old new (reply.Route r) s k a = routed_state old new r s a
  answer_state old new (reply.All rs) s k a = all_state 0 old new rs s a.1
  answer_state old new (reply.Rip n m) s k a = same_state (without_conns old n) new (removed_state b old n h s k) a.1
  answer_state old new (reply.Show n m items) s k a = same_state old new s a.2
  answer_state old new (reply.Rules found) s k a = same_state old new s a.1
  answer_state old new (reply.Strips l c strips) s k a = same_state old new s a.1

pub step_state : (b : BoardParts) (old new : List (List Conn)) (c : Command) (r : Reply) → IsBoard b → IsState b old → IsCommandOf b c → IsStep b old c r new → IsState b new
step_state b old new c r h s k step =
    answer_state b h old new r s (subst (λ (x : Command). IsCommandOf b x) step.asked k) step.answer

pub run_state : (b : BoardParts) (old new : List (List Conn)) (cs : List Command) (rs : List Reply) → IsBoard b → IsState b old → All (IsCommandOf b) cs → IsRunFrom b old cs rs new → IsState b new
run_state b old new [] [] h s k run = subst (λ (lists : List (List Conn)). IsState b lists) (sym run) s
run_state b old new [] (r ∷ rs) h s k run = absurd run
run_state b old new (c ∷ cs) [] h s k run = absurd run
run_state b old new (c ∷ cs) (r ∷ rs) h s k run =
    let state : IsState b run.0 = step_state b old run.0 c r h s (All-head (IsCommandOf b) c cs k) run.1 in
    run_state b run.0 new cs rs h state (All-tail (IsCommandOf b) c cs k) run.2
