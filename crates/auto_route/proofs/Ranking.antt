-- Which round is the best one after one more.
use Rattle.std.proofs.Common.{ℕ, ◌≡◌, ◌+◌, ◌-◌, ◌≤◌, ◌⊎◌, inl, inr, List, [], ◌∷◌, ◌++◌, length, get_or, Contains, sym, ◌∙◌, ap, subst, arith}
use Rattle.std.proofs.lemmas.List.{length-append, get_or_append_left}
use Rattle.std.proofs.Math.Seq.{get_or-append_seam}
use Rattle.std.proofs.lemmas.Bool.{cases_lt, cases_order}
use Rattle.std.proofs.lemmas.List.Elements.{Contains-get_or, Contains-push_cases}
use Rattle.board_parts.specs.declared.parts.BoardParts.{BoardParts}
use Rattle.route_law.specs.declared.replies.Routed.{Routed}
use Rattle.auto_route.specs.declared.ranks.Rank.{Rank}
use Rattle.auto_route.specs.Best.{IsBestRound, IsBetter, IsBetterRank, rank_of, round_at}

-- no rank is better than itself
not_itself : (r : Rank) → IsBetterRank r r → ⊥
not_itself r (inl h) = omega arith
not_itself r (inr h) = let l = h.1 in omega arith

-- what is better than a better one is better
better_still : (r s t : Rank) → IsBetterRank r s → IsBetterRank s t → IsBetterRank r t
better_still r s t (inl h) (inl k) = inl (omega arith)
better_still r s t (inl h) (inr k) = let e = k.0 in inl (omega arith)
better_still r s t (inr h) (inl k) = let e = h.0 in inl (omega arith)
better_still r s t (inr h) (inr k) = let d = h.0 in let e = k.0 in let l = h.1 in let m = k.1 in inr (omega arith, omega arith)

by_cost : (r s t : Rank) → IsBetterRank r s → t.complete ≡ s.complete → s.cost ≤ t.cost → IsBetterRank r t
by_cost r s t (inl h) e l = inl (omega arith)
by_cost r s t (inr h) e l = let d = h.0 in let m = h.1 in inr (omega arith, omega arith)

-- what is better than one to which none is better is better than each to which that is not better
pub better_than_all : (r s t : Rank) → IsBetterRank r s → (IsBetterRank t s → ⊥) → IsBetterRank r t
better_than_all r s t h not_so = elim (cases_order t.complete s.complete) [
  | inl e ↦ elim (cases_lt t.cost s.cost) [ inl l ↦ absurd (not_so (inr (e, l))) | inr l ↦ by_cost r s t h e l ]
  | inr (inl l) ↦ better_still r s t h (inl l)
  | inr (inr l) ↦ absurd (not_so (inl l))
]

module _ (b : BoardParts) (rounds after : List (List Routed)) (round : List Routed) (more : after ≡ rounds ++ round ∷ []) where
  size : length after ≡ length rounds + 1
  size = ap (λ (xs : List (List Routed)). length xs) more ∙ length-append rounds (round ∷ [])

  -- the rounds before are where they were, and the new one is the last
  same_at : (n : ℕ) → 1 ≤ n → n ≤ length rounds → round_at after n ≡ round_at rounds n
  same_at n l m =
      let F : List (List Routed) → List Routed = λ xs. get_or xs (n - 1) [] in
      ap F more ∙ get_or_append_left rounds (round ∷ []) [] (n - 1) (omega arith)

  pub last_at : round_at after (length rounds + 1) ≡ round
  last_at =
      let F : List (List Routed) → List Routed = λ xs. get_or xs (length rounds + 1 - 1) [] in
      let G : ℕ → List Routed = λ i. get_or (rounds ++ round ∷ []) i [] in
      let e : length rounds + 1 - 1 ≡ length rounds = omega arith in
      ap F more ∙ ap G e ∙ get_or-append_seam rounds round [] []

  cases_of : (x : List Routed) → Contains after x → Contains rounds x ⊎ (round ≡ x)
  cases_of x h = Contains-push_cases rounds round x (subst (λ (xs : List (List Routed)). Contains xs x) more h)

  -- the first round is the best one of one
  pub first_best : rounds ≡ [] → IsBestRound b after (length rounds + 1)
  first_best none =
      let count : length rounds ≡ 0 = ap (λ (xs : List (List Routed)). length xs) none in
      record {
        from = omega arith;
        to = omega (arith, size);
        unbeaten = λ x h k. elim (cases_of x h) [
          | inl m ↦ (let l = m.1 in absurd (omega (arith, l, count)))
          | inr e ↦ not_itself (rank_of b x) (subst (λ (y : List Routed). IsBetter b x y) (last_at ∙ e) k)
        ];
        first = λ m l k. absurd (omega (arith, l, k, count));
      }

  module _ (n : ℕ) (best : IsBestRound b rounds n) where
    abbrev old : List Routed
    old = round_at rounds n

    -- a better one is the best now
    pub better_best : IsBetter b round old → IsBestRound b after (length rounds + 1)
    better_best h = record {
      from = omega arith;
      to = omega (arith, size);
      unbeaten = λ x m k.
          let over : IsBetter b x round = subst (λ (y : List Routed). IsBetter b x y) last_at k in
          elim (cases_of x m) [
            | inl there ↦ best.unbeaten x there (better_still (rank_of b x) (rank_of b round) (rank_of b old) over h)
            | inr e ↦ not_itself (rank_of b x) (subst (λ (y : List Routed). IsBetter b x y) e over)
          ];
      first = λ m l k.
          let before : List Routed = round_at rounds m in
          let there : Contains rounds before = Contains-get_or rounds (m - 1) [] (omega arith) in
          let over : IsBetter b round before = better_than_all (rank_of b round) (rank_of b old) (rank_of b before) h (best.unbeaten before there) in
          let P : List Routed → List Routed → Type 0 = λ x y. IsBetter b x y in
          subst (λ (x : List Routed). P x (round_at after m)) (sym last_at) (subst (P round) (sym (same_at m l (omega arith))) over);
    }

    -- one that is not better leaves the best one
    pub same_best : (IsBetter b round old → ⊥) → IsBestRound b after n
    same_best h =
        let lower = best.from in
        let upper = best.to in
        let is : round_at after n ≡ old = same_at n lower upper in
        record {
          from = lower;
          to = omega (arith, size);
          unbeaten = λ x m k.
              let over : IsBetter b x old = subst (λ (y : List Routed). IsBetter b x y) is k in
              elim (cases_of x m) [
                | inl there ↦ best.unbeaten x there over
                | inr e ↦ h (subst (λ (y : List Routed). IsBetter b y old) (sym e) over)
              ];
          first = λ m l k.
              let P : List Routed → List Routed → Type 0 = λ x y. IsBetter b x y in
              subst (λ (x : List Routed). P x (round_at after m)) (sym is) (subst (P old) (sym (same_at m l (omega arith))) (best.first m l k));
        }

    pub same_round : round_at after n ≡ old
    same_round = same_at n best.from best.to
