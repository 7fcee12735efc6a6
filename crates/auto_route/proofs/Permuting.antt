-- Each round routes the nets of the board, each once.
use Rattle.std.proofs.Common.{◌≡◌, List, [], ◌∷◌, All, refl, sym, subst}
use Rattle.std.specs.Prelude.{Bool, true, false, not, IsPermutation}
use Rattle.std.proofs.lemmas.List.Elements.{All-nil, All-cons, All-weaker}
use Rattle.std.proofs.lemmas.List.Sorted.{IsPermutation-filter_both, IsPermutation-refl, IsPermutation-trans}
use Rattle.geo_rect.specs.declared.ids.NetId.{NetId}
use Rattle.board_model.specs.declared.made.Conn.{Conn}
use Rattle.board_parts.specs.declared.parts.BoardParts.{BoardParts}
use Rattle.route_law.specs.declared.replies.Routed.{Routed}
use Rattle.auto_route.specs.Rounds.{AreRounds, AreRoundsFrom, RoutesEachNetOnce, is_complete, next_order, order_of, text_order}
use Rattle.auto_route.specs.States.{last_state}

not_twice : (x : Bool) → x ≡ not (not x)
not_twice true = refl
not_twice false = refl

-- the next order has the nets of this one
next_permutes : (b : BoardParts) (lists : List (List Conn)) (order : List NetId) → IsPermutation order (next_order b lists order)
next_permutes b lists order =
    IsPermutation-filter_both (λ (n : NetId). not (is_complete b lists n)) (is_complete b lists) (λ n. not_twice (is_complete b lists n)) order

-- so each of several rounds has those of the first
rounds_permute : (b : BoardParts) (order : List NetId) (rounds : List (List Routed)) → AreRoundsFrom b order rounds → All (λ (round : List Routed). IsPermutation order (order_of round)) rounds
rounds_permute b order [] h = All-nil (λ (round : List Routed). IsPermutation order (order_of round))
rounds_permute b order (round ∷ rounds) h =
    let next : List NetId = next_order b (last_state b round) order in
    let P : List Routed → Type 0 = λ x. IsPermutation order (order_of x) in
    let Q : List Routed → Type 0 = λ x. IsPermutation next (order_of x) in
    let onward : (x : List Routed) → Q x → P x = λ x k. IsPermutation-trans order next (order_of x) (next_permutes b (last_state b round) order) k in
    let first : P round = subst (IsPermutation order) (sym h.0.nets) (IsPermutation-refl order) in
    All-cons P round rounds first (All-weaker Q P onward rounds (rounds_permute b next rounds h.1))

-- the first round has the nets of the board
pub each_net_once : (b : BoardParts) (rounds : List (List Routed)) → AreRounds b rounds → All (RoutesEachNetOnce b) rounds
each_net_once b rounds h = rounds_permute b (text_order b) rounds h
