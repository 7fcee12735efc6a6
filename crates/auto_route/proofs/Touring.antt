-- How a series of rounds begins and goes on.
use Rattle.std.proofs.Common.{ℕ, ◌≡◌, ◌+◌, ◌-◌, ◌<◌, ◌≤◌, ◌⊎◌, inl, inr, List, [], ◌∷◌, ◌++◌, length, All, refl, sym, ◌∙◌, ap, subst, arith}
use Rattle.std.proofs.lemmas.List.{length-append, length-map}
use Rattle.std.proofs.lemmas.List.Elements.{All-nil, All-cons, All-get_or, All-push}
use Rattle.geo_rect.specs.declared.ids.NetId.{NetId}
use Rattle.board_model.specs.declared.made.Conn.{Conn}
use Rattle.board_parts.specs.declared.parts.BoardParts.{BoardParts}
use Rattle.board_parts.specs.Rules.{IsBoard}
use Rattle.demo_text.specs.Bounds.{AreCounted, IsCounted}
use Rattle.demo_text.proofs.Counted.{routed_counted}
use Rattle.route_law.specs.declared.replies.Routed.{Routed}
use Rattle.route_law.specs.Regular.{IsRegularRouted}
use Rattle.route_law.specs.Steps.{nothing_made}
use Rattle.auto_route.specs.declared.ranks.Rank.{Rank}
use Rattle.auto_route.specs.declared.tours.Tour.{Tour}
use Rattle.auto_route.specs.Best.{IsBestRound, IsBetterRank, rank_of, round_at}
use Rattle.auto_route.specs.Rounds.{AreRounds, AreRoundsFrom, AreRouted, IsRound, next_order, text_order}
use Rattle.auto_route.specs.States.{after_net, last_state}
use Rattle.auto_route.specs.Tours.{IsBestSoFar, IsOrder, IsRanked, IsTour, left, order_after, taken}
use Rattle.auto_route.proofs.Ordering.{next_is_order, text_is_order}
use Rattle.auto_route.proofs.Ranking.{better_best, first_best, last_at, same_best, same_round}

-- what came of the nets of a round is counted in few steps
each_counted : (b : BoardParts) → IsBoard b → (lists : List (List Conn)) (rs : List Routed) → AreRouted b lists rs → All IsCounted rs
each_counted b board lists [] h = All-nil IsCounted
each_counted b board lists (r ∷ rs) h =
    All-cons IsCounted r rs (routed_counted b board lists (after_net lists r) r h.0) (each_counted b board (after_net lists r) rs h.1)

pub round_size : (b : BoardParts) (order : List NetId) (round : List Routed) → IsOrder b order → IsRound b order round → length round ≡ length b.net_names
round_size b order round h k =
    let net_of : Routed → NetId = λ x. x.net in
    sym (length-map round net_of) ∙ ap (λ (ns : List NetId). length ns) k.nets ∙ h.size

pub round_counted : (b : BoardParts) (order : List NetId) (round : List Routed) → IsBoard b → IsOrder b order → IsRound b order round → AreCounted round
round_counted b order round board h k = record {
  few = omega (arith, round_size b order round h k, board.net_names.few);
  each = each_counted b board (nothing_made b) round k.routed;
}

-- each of several rounds, and that what came of its nets is counted in few steps
rounds_counted : (b : BoardParts) (order : List NetId) (rounds : List (List Routed)) → IsBoard b → IsOrder b order → AreRoundsFrom b order rounds → All AreCounted rounds
rounds_counted b order [] board h k = All-nil AreCounted
rounds_counted b order (round ∷ rounds) board h k =
    All-cons AreCounted round rounds (round_counted b order round board h k.0) (rounds_counted b (next_order b (last_state b round) order) rounds board (next_is_order b (last_state b round) order h) k.1)

rounds_routed : (b : BoardParts) (order : List NetId) (rounds : List (List Routed)) → AreRoundsFrom b order rounds → All (AreRouted b (nothing_made b)) rounds
rounds_routed b order [] k = All-nil (AreRouted b (nothing_made b))
rounds_routed b order (round ∷ rounds) k =
    All-cons (AreRouted b (nothing_made b)) round rounds k.0.routed (rounds_routed b (next_order b (last_state b round) order) rounds k.1)

module _ (b : BoardParts) (rounds : List (List Routed)) (n : ℕ) (from : 1 ≤ n) (to : n ≤ length rounds) (h : AreRounds b rounds) where
  pub counted_at : IsBoard b → AreCounted (round_at rounds n)
  counted_at board = All-get_or AreCounted rounds (n - 1) [] (omega arith) (rounds_counted b (text_order b) rounds board (text_is_order b) h)

  pub routed_at : AreRouted b (nothing_made b) (round_at rounds n)
  routed_at = All-get_or (AreRouted b (nothing_made b)) rounds (n - 1) [] (omega arith) (rounds_routed b (text_order b) rounds h)

-- one round more, in the order that those before it leave
rounds-next : (b : BoardParts) (order : List NetId) (rounds : List (List Routed)) (round : List Routed) → AreRoundsFrom b order rounds → IsRound b (order_after b order rounds) round → AreRoundsFrom b order (rounds ++ round ∷ [])
rounds-next b order [] round h k = (k, tt)
rounds-next b order (x ∷ rounds) round h k = (h.0, rounds-next b (next_order b (last_state b x) order) rounds round h.1 k)

order_after-next : (b : BoardParts) (order : List NetId) (rounds : List (List Routed)) (round : List Routed) → order_after b order (rounds ++ round ∷ []) ≡ next_order b (last_state b round) (order_after b order rounds)
order_after-next b order [] round = refl
order_after-next b order (x ∷ rounds) round = order_after-next b (next_order b (last_state b x) order) rounds round

-- no round was played yet
pub tour_start : (b : BoardParts) (tour : Tour) → tour.rounds ≡ [] → tour.order ≡ text_order b → IsTour b tour
tour_start b tour none order =
    let P : List (List Routed) → Type 0 = λ rs. AreRounds b rs in
    let Q : List (List Routed) → Type 0 = λ rs. All (All (IsRegularRouted b)) rs in
    let F : List (List Routed) → List NetId = λ rs. order_after b (text_order b) rs in
    record {
      rounds = subst P (sym none) tt;
      regular = subst Q (sym none) (All-nil (All (IsRegularRouted b)));
      next = order ∙ ap F (sym none);
      order = subst (IsOrder b) (sym order) (text_is_order b);
      best = λ l. let size = ap (λ (rs : List (List Routed)). length rs) none in absurd (omega (arith, l, size));
    }

some_or_none : (rounds : List (List Routed)) → (rounds ≡ []) ⊎ (0 < length rounds)
some_or_none [] = inl refl
some_or_none (x ∷ rounds) = inr (omega arith)

not_none : (rounds : List (List Routed)) → (rounds ≡ [] → ⊥) → 0 < length rounds
not_none [] not_so = absurd (not_so refl)
not_none (x ∷ rounds) not_so = omega arith

module _ (b : BoardParts) (old mid new : Tour) (round : List Routed) (h : IsTour b old) where
  abbrev rank : Rank
  rank = rank_of b round

  more_regular : new.rounds ≡ old.rounds ++ round ∷ [] → All (IsRegularRouted b) round → All (All (IsRegularRouted b)) new.rounds
  more_regular more regular =
      subst (λ (rs : List (List Routed)). All (All (IsRegularRouted b)) rs) (sym more) (All-push (All (IsRegularRouted b)) old.rounds round h.regular regular)

  more_rounds : new.rounds ≡ old.rounds ++ round ∷ [] → IsRound b old.order round → AreRounds b new.rounds
  more_rounds more is =
      let next : IsRound b (order_after b (text_order b) old.rounds) round = subst (λ (ns : List NetId). IsRound b ns round) h.next is in
      subst (λ (rs : List (List Routed)). AreRounds b rs) (sym more) (rounds-next b (text_order b) old.rounds round h.rounds next)

  more_order : new.rounds ≡ old.rounds ++ round ∷ [] → new.order ≡ next_order b (last_state b round) old.order → new.order ≡ order_after b (text_order b) new.rounds
  more_order more order =
      let F : List NetId → List NetId = λ ns. next_order b (last_state b round) ns in
      let G : List (List Routed) → List NetId = λ rs. order_after b (text_order b) rs in
      order ∙ ap F h.next ∙ sym (order_after-next b (text_order b) old.rounds round) ∙ ap G (sym more)

  better_round : new.rounds ≡ old.rounds ++ round ∷ [] → IsBetterRank rank old.rank → (old.rounds ≡ []) ⊎ (0 < length old.rounds) → IsBestRound b new.rounds (length old.rounds + 1)
  better_round more better (inl none) = first_best b old.rounds new.rounds round more none
  better_round more better (inr l) =
      let so_far = h.best l in
      better_best b old.rounds new.rounds round more old.best so_far.best (subst (λ (r : Rank). IsBetterRank rank r) so_far.rank better)

  taken_round : new.rounds ≡ old.rounds ++ round ∷ [] → (old.rounds ≡ []) ⊎ IsBetterRank rank old.rank → IsBestRound b new.rounds (length old.rounds + 1)
  taken_round more (inl none) = first_best b old.rounds new.rounds round more none
  taken_round more (inr better) = better_round more better (some_or_none old.rounds)

  -- the new round is the best one
  taken_best : new.rounds ≡ old.rounds ++ round ∷ [] → new.best ≡ length old.rounds + 1 → new.rank ≡ rank → (old.rounds ≡ []) ⊎ IsBetterRank rank old.rank → IsBestSoFar b new
  taken_best more number ranked cause =
      let last : round_at new.rounds (length old.rounds + 1) ≡ round = last_at b old.rounds new.rounds round more in
      let F : ℕ → List Routed = λ n. round_at new.rounds n in
      let G : List Routed → Rank = λ rs. rank_of b rs in
      record {
        best = subst (λ (n : ℕ). IsBestRound b new.rounds n) (sym number) (taken_round more cause);
        rank = ranked ∙ ap G (sym (ap F number ∙ last));
      }

  -- the best one stays
  left_best : new.rounds ≡ old.rounds ++ round ∷ [] → new.best ≡ old.best → new.rank ≡ old.rank → 0 < length old.rounds → (IsBetterRank rank old.rank → ⊥) → IsBestSoFar b new
  left_best more number ranked l not_so =
      let so_far = h.best l in
      let worse : IsBetterRank rank (rank_of b (round_at old.rounds old.best)) → ⊥ = subst (λ (r : Rank). IsBetterRank rank r → ⊥) so_far.rank not_so in
      let same : round_at new.rounds old.best ≡ round_at old.rounds old.best = same_round b old.rounds new.rounds round more old.best so_far.best in
      let F : ℕ → List Routed = λ n. round_at new.rounds n in
      let G : List Routed → Rank = λ rs. rank_of b rs in
      record {
        best = subst (λ (n : ℕ). IsBestRound b new.rounds n) (sym number) (same_best b old.rounds new.rounds round more old.best so_far.best worse);
        rank = ranked ∙ so_far.rank ∙ ap G (sym (ap F number ∙ same));
      }

  next_best : IsRanked old rank mid → new.rounds ≡ old.rounds ++ round ∷ [] → new.best ≡ mid.best → new.rank ≡ mid.rank → IsBestSoFar b new
  next_best (taken cause e) more number ranked =
      taken_best more (number ∙ ap (λ (t : Tour). t.best) e) (ranked ∙ ap (λ (t : Tour). t.rank) e) cause
  next_best (left some not_so e) more number ranked =
      left_best more (number ∙ ap (λ (t : Tour). t.best) e) (ranked ∙ ap (λ (t : Tour). t.rank) e) (not_none old.rounds some) not_so

  same_rounds : IsRanked old rank mid → mid.rounds ≡ old.rounds
  same_rounds (taken cause e) = ap (λ (t : Tour). t.rounds) e
  same_rounds (left some not_so e) = ap (λ (t : Tour). t.rounds) e

  -- one round more was played
  pub tour_next : IsRanked old rank mid → new.rounds ≡ mid.rounds ++ round ∷ [] → new.order ≡ next_order b (last_state b round) old.order → new.best ≡ mid.best → new.rank ≡ mid.rank
      → IsRound b old.order round → All (IsRegularRouted b) round → IsTour b new
  tour_next ranked pushed order number rank_is is regular =
      let more : new.rounds ≡ old.rounds ++ round ∷ [] = pushed ∙ ap (λ (rs : List (List Routed)). rs ++ round ∷ []) (same_rounds ranked) in
      record {
        rounds = more_rounds more is;
        regular = more_regular more regular;
        next = more_order more order;
        order = subst (IsOrder b) (sym order) (next_is_order b (last_state b round) old.order h.order);
        best = λ l. next_best ranked more number rank_is;
      }

  pub tour_count : IsRanked old rank mid → new.rounds ≡ mid.rounds ++ round ∷ [] → length new.rounds ≡ length old.rounds + 1
  tour_count ranked pushed =
      ap (λ (rs : List (List Routed)). length rs) (pushed ∙ ap (λ (rs : List (List Routed)). rs ++ round ∷ []) (same_rounds ranked)) ∙ length-append old.rounds (round ∷ [])
