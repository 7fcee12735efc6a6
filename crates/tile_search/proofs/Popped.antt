-- What a queue has left after pops.
use Rattle.std.proofs.Common.{◌≡◌, ℕ, ◌<◌, ◌≤◌, ◌⊎◌, inl, inr, List, [], ◌∷◌, ◌++◌, All, Contains, Option, Some, None, length, refl, sym, subst, arith}
use Rattle.std.proofs.lemmas.List.{length-append}
use Rattle.std.proofs.lemmas.List.Elements.{All-contains, All-weaker, All-contains_itself, Contains-append_left, Contains-append_right, Contains-append_cases}
use Rattle.plane_core.proofs.Members.{has_head, has_tail, has_cases, has_none}
use Rattle.route_law.specs.declared.certs.Entry.{Entry}
use Rattle.route_law.specs.Covers.{IsReachedBefore}
use Rattle.route_law.specs.Moves.{arrival_of}
use Rattle.wavefront.specs.Waiting.{Pair, IsPopped}
use Rattle.tile_search.specs.declared.goals.Goal.{Goal}
use Rattle.tile_search.specs.Waits.{HasBoundedFront, IsLate, AreNeedless, IsThinned, IsNext}

module _ (old : List Pair) (p : Pair) (new : List Pair) (h : IsPopped old p new) where
  parts_taken : Contains (h.before ++ p ∷ h.after) p
  parts_taken = Contains-append_right h.before (p ∷ h.after) p (has_head p h.after)

  parts_kept : (q : Pair) → Contains (h.before ++ h.after) q → Contains (h.before ++ p ∷ h.after) q
  parts_kept q k =
      elim (Contains-append_cases h.before h.after q k) [
        | inl b ↦ Contains-append_left h.before (p ∷ h.after) q b
        | inr a ↦ Contains-append_right h.before (p ∷ h.after) q (has_tail p h.after q a)
      ]

  parts_cases : (q : Pair) → Contains (h.before ++ p ∷ h.after) q → (p ≡ q) ⊎ Contains (h.before ++ h.after) q
  parts_cases q k =
      elim (Contains-append_cases h.before (p ∷ h.after) q k) [
        | inl b ↦ inr (Contains-append_left h.before h.after q b)
        | inr a ↦ elim (has_cases p h.after q a) [
          | inl e ↦ inl e
          | inr c ↦ inr (Contains-append_right h.before h.after q c)
        ]
      ]

  parts_least : (q : Pair) → Contains (h.before ++ h.after) q → p.key ≤ q.key
  parts_least q k =
      elim (Contains-append_cases h.before h.after q k) [
        | inl b ↦ (let l = All-contains (λ (r : Pair). p.key < r.key) h.before q h.earlier b in omega (arith, l))
        | inr a ↦ All-contains (λ (r : Pair). p.key ≤ r.key) h.after q h.later a
      ]

  pub popped_taken : Contains old p
  popped_taken = subst (λ (ps : List Pair). Contains ps p) (sym h.was) parts_taken

  pub popped_kept : (q : Pair) → Contains new q → Contains old q
  popped_kept q k = subst (λ (ps : List Pair). Contains ps q) (sym h.was) (parts_kept q (subst (λ (ps : List Pair). Contains ps q) h.left k))

  pub popped_cases : (q : Pair) → Contains old q → (p ≡ q) ⊎ Contains new q
  popped_cases q k =
      elim (parts_cases q (subst (λ (ps : List Pair). Contains ps q) h.was k)) [
        | inl e ↦ inl e
        | inr c ↦ inr (subst (λ (ps : List Pair). Contains ps q) (sym h.left) c)
      ]

  pub popped_least : (q : Pair) → Contains new q → p.key ≤ q.key
  popped_least q k = parts_least q (subst (λ (ps : List Pair). Contains ps q) h.left k)

  parts_length : length (h.before ++ h.after) < length (h.before ++ p ∷ h.after)
  parts_length = omega (arith, length-append h.before h.after, length-append h.before (p ∷ h.after))

  pub popped_length : length new < length old
  popped_length =
      subst (λ (ps : List Pair). length new < length ps) (sym h.was)
      (subst (λ (ps : List Pair). length ps < length (h.before ++ p ∷ h.after)) (sym h.left) parts_length)

late_more : (best : Option Goal) (m n : ℕ) → m ≤ n → IsLate best m → IsLate best n
late_more None m n l h = absurd h
late_more (Some goal) m n l h = omega (arith, l, h)

pub thinned_none : (entries : List Entry) (pairs : List Pair) → IsThinned entries pairs pairs
thinned_none entries pairs = record { kept = λ q h. h; rest = λ q h. inl h }

module _ (entries : List Entry) (old mid : List Pair) (t : IsThinned entries old mid) where
  -- what settled fronts cover may be dropped
  pub thinned_more : (p : Pair) (new : List Pair) → IsPopped mid p new → IsReachedBefore entries (arrival_of p.entry) → IsThinned entries old new
  thinned_more p new h r = record {
    kept = λ q k. t.kept q (popped_kept mid p new h q k);
    rest = λ q k. elim (t.rest q k) [
      | inl m ↦ elim (popped_cases mid p new h q m) [
        | inl e ↦ inr (subst (λ (x : Pair). IsReachedBefore entries (arrival_of x.entry)) e r)
        | inr n ↦ inl n
      ]
      | inr c ↦ inr c
    ];
  }

  -- what is popped is the next
  pub next_of : (best : Option Goal) (key : ℕ) (e : Entry) (new : List Pair) → IsPopped mid (record { key = key; entry = e }) new → (IsLate best key → ⊥) → (IsReachedBefore entries (arrival_of e) → ⊥) → IsNext entries best old new e
  next_of best key e new h early u =
      let p : Pair = record { key = key; entry = e } in
      record {
        key = key;
        early = early;
        listed = t.kept p (popped_taken mid p new h);
        uncovered = u;
        least = λ q k. popped_least mid p new h q k;
        kept = λ q k. t.kept q (popped_kept mid p new h q k);
        rest = λ q k. elim (t.rest q k) [
          | inl m ↦ elim (popped_cases mid p new h q m) [
            | inl i ↦ inl (subst (λ (x : Pair). x.entry ≡ e) i refl)
            | inr n ↦ inr (inl n)
          ]
          | inr c ↦ inr (inr c)
        ];
      }

  -- where the least is late, all are
  pub needless_late : (best : Option Goal) (p : Pair) (new : List Pair) → IsPopped mid p new → IsLate best p.key → AreNeedless entries best old
  needless_late best p new h l q k =
      elim (t.rest q k) [
        | inl m ↦ elim (popped_cases mid p new h q m) [
          | inl e ↦ inr (subst (λ (x : Pair). IsLate best x.key) e l)
          | inr n ↦ inr (late_more best p.key q.key (popped_least mid p new h q n) l)
        ]
        | inr c ↦ inl c
      ]

  -- where nothing is left, all were covered
  pub needless_none : (best : Option Goal) → mid ≡ [] → AreNeedless entries best old
  needless_none best e q k =
      elim (t.rest q k) [
        | inl m ↦ absurd (has_none q (subst (λ (ps : List Pair). Contains ps q) e m))
        | inr c ↦ inl c
      ]

  pub thinned_bounded : All HasBoundedFront old → All HasBoundedFront mid
  thinned_bounded h =
      All-weaker (Contains mid) HasBoundedFront (λ q k. All-contains HasBoundedFront old q h (t.kept q k)) mid (All-contains_itself mid)
