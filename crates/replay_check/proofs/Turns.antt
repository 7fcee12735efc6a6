-- Connections, and the blocks of nets, one after another: what is left of them is told in the state that those
-- before led to.
use Rattle.std.proofs.Common.{ℕ, suc, ◌≡◌, ◌+◌, ◌-◌, ◌<◌, ◌≤◌, List, ◌∷◌, length, get_or, drop, Option, Some, None, sym, subst, arith}
use Rattle.std.proofs.Math.Seq.{drop-cons}
use Rattle.geo_rect.specs.declared.ids.NetId.{NetId}
use Rattle.board_model.specs.declared.made.Conn.{Conn}
use Rattle.board_parts.specs.declared.parts.BoardParts.{BoardParts}
use Rattle.board_model.specs.Made.{conns_of, with_conn}
use Rattle.route_law.specs.declared.replies.Fail.{Fail}
use Rattle.route_law.specs.declared.replies.Made1.{Made1}
use Rattle.route_law.specs.declared.replies.Routed.{Routed}
use Rattle.route_law.specs.Routing.{AreMadeInTurn, AreRoutedFrom, IsDoneOrStuck, IsNextConnection, IsRouted, net_at}
use Rattle.replay_check.specs.States.{AreCounted}
use Rattle.replay_check.proofs.Determined.{made_determined, routed_determined}
use Rattle.replay_check.proofs.Growing.{one_conn_more}

abbrev State : Type 0
State = List (List Conn)

-- what is left of a list from number i on begins with the item of that number
left_from : {A : Type 0} (xs : List A) (i : ℕ) (x : A) → i < length xs → get_or xs i x ≡ x → drop i xs ≡ x ∷ drop (i + 1) xs
left_from {A} xs i x l e =
    let next : suc i ≡ i + 1 = omega arith in
    let P : A → Type 0 = λ y. drop i xs ≡ y ∷ drop (suc i) xs in
    let Q : ℕ → Type 0 = λ m. drop i xs ≡ x ∷ drop m xs in
    subst Q next (subst P e (drop-cons xs i x l))

-- the first i of the connections were made, and led from old to the state now
pub record AreMadeSoFar (b : BoardParts) (old : State) (n : NetId) (ms : List Made1) (i : ℕ) (now : State) : Type 0 where
  pub forth : (new : State) → AreMadeInTurn b old n ms new → AreMadeInTurn b now n (drop i ms) new
  pub back : (new : State) → AreMadeInTurn b now n (drop i ms) new → AreMadeInTurn b old n ms new
  pub count : length (conns_of now n) ≡ length (conns_of old n) + i

module _ (b : BoardParts) (old : State) (n : NetId) (ms : List Made1) where
  module _ (i : ℕ) (m : Made1) (l : i < length ms) (e : get_or ms i m ≡ m) (now : State) (h : AreMadeSoFar b old n ms i now) where
    abbrev Left : State → List Made1 → Type 0
    Left new xs = AreMadeInTurn b now n xs new

    pub made_more : n.0 < length now → IsNextConnection b now n m → AreMadeSoFar b old n ms (i + 1) (with_conn now n m.conn)
    made_more k next = record {
      forth = λ new made. let parts : Left new (m ∷ drop (i + 1) ms) = subst (Left new) (left_from ms i m l e) (h.forth new made) in parts.1;
      back = λ new made. h.back new (subst (Left new) (sym (left_from ms i m l e)) (next, made));
      count = let more = one_conn_more now n m.conn k in omega (arith, more, h.count);
    }

-- the first i of the blocks are right, and led from old to the state now
pub record AreRoutedSoFar (b : BoardParts) (old : State) (rs : List Routed) (i : ℕ) (now : State) : Type 0 where
  pub forth : (new : State) → AreRoutedFrom b 0 old rs new → AreRoutedFrom b i now (drop i rs) new
  pub back : (new : State) → AreRoutedFrom b i now (drop i rs) new → AreRoutedFrom b 0 old rs new

module _ (b : BoardParts) (old : State) (rs : List Routed) where
  module _ (i : ℕ) (r : Routed) (l : i < length rs) (e : get_or rs i r ≡ r) (now : State) (h : AreRoutedSoFar b old rs i now) where
    abbrev Rest : State → List Routed → Type 0
    Rest new xs = AreRoutedFrom b i now xs new

    pub routed_more : (mid : State) → r.net ≡ net_at i → IsRouted b now r mid → AreRoutedSoFar b old rs (i + 1) mid
    routed_more mid net k = record {
      forth = λ new all.
          let parts : Rest new (r ∷ drop (i + 1) rs) = subst (Rest new) (left_from rs i r l e) (h.forth new all) in
          let P : State → Type 0 = λ s. AreRoutedFrom b (i + 1) s (drop (i + 1) rs) new in
          subst P (routed_determined b now r parts.1 mid parts.2 k) parts.3;
      back = λ new all. h.back new (subst (Rest new) (sym (left_from rs i r l e)) (net, mid, k, all));
    }

-- no more connections were made than were missing
pub counted_few : (missing made : ℕ) (o : Option Fail) → AreCounted missing made o → made ≤ missing
counted_few missing made None h = omega (arith, h)
counted_few missing made (Some f) h = omega (arith, h)

-- where the connections led to this state, the rest is told of it
pub rest_here : (b : BoardParts) (old : State) (r : Routed) (now new : State) → AreMadeInTurn b old r.net r.made now → IsRouted b old r new → IsDoneOrStuck b now r.net r.missing (length r.made) r.none
rest_here b old r now new h k =
    let P : State → Type 0 = λ s. IsDoneOrStuck b s r.net r.missing (length r.made) r.none in
    subst P (made_determined b old r.net r.made new now k.made h) k.rest

-- where fewer were made than were missing, the net lacks one still
pub few_lack : (after before made missing needed : ℕ) → missing ≡ needed - before → after ≡ before + made → made < missing → after < needed
few_lack after before made missing needed e f l = omega (arith, e, f, l)
