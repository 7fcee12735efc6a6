-- How a flood goes on: from its seeds, from a part, and over what is next to it.
use Rattle.std.proofs.Common.{◌≡◌, refl, ℕ, ◌+◌, ◌<◌, ◌≤◌, ◌≢◌, Bool, true, false, List, [], ◌∷◌, ◌++◌, length, set, get_or, ap, sym, ◌∙◌, subst, ◌⊎◌, inl, inr, arith}
use Rattle.std.specs.Prelude.{Contains, sum_by}
use Rattle.std.proofs.lemmas.Bool.{cases_lt, cases_eq, false≢true}
use Rattle.std.proofs.lemmas.List.{get_or-set_same, get_or-set_other, length-set, get_or_default}
use Rattle.std.proofs.lemmas.List.Elements.{Contains-append_left, Contains-push, Contains-push_cases}
use Rattle.std.proofs.lemmas.List.Sums.{sum_by-set}
use Rattle.std.proofs.lemmas.Option.{slice_get_within, slice_get_read, get_or_from_slice_get}
use Rattle.std.proofs.Math.ListN.{get_or-eq_default}
use Rattle.geo_rect.specs.declared.shapes.Rect.{Rect}
use Rattle.plane_core.proofs.Members.{has_none}
use Rattle.zone_fill.specs.Flooding.{AreNext, AreNeighbours, IsMarked, IsFlooded, AreAllFlooded, IsFrontOf, IsUntried, IsNoPair, IsFlood, StayMarked, StayFlooded, blank}
use Rattle.zone_fill.specs.Flooding.IsFlooded.{begins, goes_on}

-- what is marked has a place
pub marked_within : (marks : List Bool) (i : ℕ) → IsMarked marks i → i < length marks
marked_within marks i h = by (cases_lt i (length marks))
  where
    by : (i < length marks) ⊎ (length marks ≤ i) → i < length marks
    by (inl l) = l
    by (inr l) = absurd (false≢true (sym (get_or-eq_default marks false l) ∙ h))

-- what was marked is so after one mark more
pub marked_still : (marks : List Bool) (i : ℕ) → i < length marks → StayMarked marks (set marks i true)
marked_still marks i l j h = by (cases_eq j i)
  where
    by : (j ≡ i) ⊎ (j ≢ i) → IsMarked (set marks i true) j
    by (inl e) = ap (λ k. get_or (set marks i true) k false) e ∙ get_or-set_same marks i true false l
    by (inr d) = get_or-set_other marks i j true false d ∙ h

-- a part that is marked now is the new one, or it was marked
now_marked : (marks : List Bool) (i j : ℕ) → IsMarked (set marks i true) j → (j ≡ i) ⊎ IsMarked marks j
now_marked marks i j h = by (cases_eq j i)
  where
    by : (j ≡ i) ⊎ (j ≢ i) → (j ≡ i) ⊎ IsMarked marks j
    by (inl e) = inl e
    by (inr d) = inr (sym (get_or-set_other marks i j true false d) ∙ h)

module _ (parts : List Rect) where
  second_known : (i j : ℕ) → AreNeighbours parts i j → j < length parts
  second_known i j t = slice_get_within parts j t.other t.is_other

  -- one mark more: its part is put to the front
  flood_more : (left : ℕ → ℕ → Type 0) (marks : List Bool) (front : List ℕ) (i : ℕ) → i < length parts → IsFlood parts left marks front → IsFlood parts left (set marks i true) (front ++ i ∷ [])
  flood_more left marks front i l f = record { each = length-set marks i true ∙ f.each; front_is = front_more; spread = spread_more }
    where
      within : i < length marks
      within = subst (λ n. i < n) (sym f.each) l

      front_more : (j : ℕ) → Contains (front ++ i ∷ []) j → IsMarked (set marks i true) j
      front_more j h = by (Contains-push_cases front i j h)
        where
          by : Contains front j ⊎ (i ≡ j) → IsMarked (set marks i true) j
          by (inl k) = marked_still marks i within j (f.front_is j k)
          by (inr e) = ap (λ k. get_or (set marks i true) k false) (sym e) ∙ get_or-set_same marks i true false within

      spread_more : (j k : ℕ) → IsMarked (set marks i true) j → AreNeighbours parts j k → IsMarked (set marks i true) k ⊎ (Contains (front ++ i ∷ []) j ⊎ left j k)
      spread_more j k h t = by (now_marked marks i j h)
        where
          later : IsMarked marks k ⊎ (Contains front j ⊎ left j k) → IsMarked (set marks i true) k ⊎ (Contains (front ++ i ∷ []) j ⊎ left j k)
          later (inl r) = inl (marked_still marks i within k r)
          later (inr (inl r)) = inr (inl (Contains-append_left front (i ∷ []) j r))
          later (inr (inr r)) = inr (inr r)

          by : (j ≡ i) ⊎ IsMarked marks j → IsMarked (set marks i true) k ⊎ (Contains (front ++ i ∷ []) j ⊎ left j k)
          by (inl e) = inr (inl (subst (Contains (front ++ i ∷ [])) (sym e) (Contains-push front i)))
          by (inr m) = later (f.spread j k m t)

  -- the last of the front is taken from it, and no pair of it is tried
  pub flood_takes : (marks : List Bool) (front : List ℕ) (from : ℕ) → IsFlood parts IsNoPair marks (front ++ from ∷ []) → IsFlood parts (IsUntried from 0) marks front
  flood_takes marks front from f = record {
    each = f.each;
    front_is = λ i h. f.front_is i (Contains-append_left front (from ∷ []) i h);
    spread = λ i j h t. by i j (f.spread i j h t);
  }
    where
      at : (i j : ℕ) → Contains front i ⊎ (from ≡ i) → Contains front i ⊎ IsUntried from 0 i j
      at i j (inl h) = inl h
      at i j (inr e) = inr (record { source = sym e; later = omega arith })

      by : (i j : ℕ) → IsMarked marks j ⊎ (Contains (front ++ from ∷ []) i ⊎ IsNoPair i j) → IsMarked marks j ⊎ (Contains front i ⊎ IsUntried from 0 i j)
      by i j (inl h) = inl h
      by i j (inr (inl h)) = inr (at i j (Contains-push_cases front from i h))
      by i j (inr (inr h)) = absurd h

  -- every pair of it is tried
  pub flood_tried : (marks : List Bool) (front : List ℕ) (from n : ℕ) → length parts ≤ n → IsFlood parts (IsUntried from n) marks front → IsFlood parts IsNoPair marks front
  flood_tried marks front from n l f = record { each = f.each; front_is = f.front_is; spread = λ i j h t. by i j t (f.spread i j h t) }
    where
      by : (i j : ℕ) → AreNeighbours parts i j → IsMarked marks j ⊎ (Contains front i ⊎ IsUntried from n i j) → IsMarked marks j ⊎ (Contains front i ⊎ IsNoPair i j)
      by i j t (inl h) = inl h
      by i j t (inr (inl h)) = inr (inl h)
      by i j t (inr (inr h)) = let k = second_known i j t in absurd (omega (arith, k, h.later))

  -- one pair more is tried, whose second part is marked, or not next to the first
  flood_next : (marks : List Bool) (front : List ℕ) (from to : ℕ) → (AreNeighbours parts from to → IsMarked marks to) → IsFlood parts (IsUntried from to) marks front → IsFlood parts (IsUntried from (to + 1)) marks front
  flood_next marks front from to r f = record { each = f.each; front_is = f.front_is; spread = λ i j h t. by i j t (f.spread i j h t) }
    where
      at : (i j : ℕ) → AreNeighbours parts i j → IsUntried from to i j → (j ≡ to) ⊎ (j ≢ to) → IsMarked marks j ⊎ (Contains front i ⊎ IsUntried from (to + 1) i j)
      at i j t u (inl e) = inl (subst (IsMarked marks) (sym e) (r (subst (λ k. AreNeighbours parts k to) u.source (subst (AreNeighbours parts i) e t))))
      at i j t u (inr d) = inr (inr (record { source = u.source; later = omega (arith, u.later, d) }))

      by : (i j : ℕ) → AreNeighbours parts i j → IsMarked marks j ⊎ (Contains front i ⊎ IsUntried from to i j) → IsMarked marks j ⊎ (Contains front i ⊎ IsUntried from (to + 1) i j)
      by i j t (inl h) = inl h
      by i j t (inr (inl h)) = inr (inl h)
      by i j t (inr (inr u)) = at i j t u (cases_eq j to)

  pub flood_marked : (marks : List Bool) (front : List ℕ) (from to : ℕ) → IsMarked marks to → IsFlood parts (IsUntried from to) marks front → IsFlood parts (IsUntried from (to + 1)) marks front
  flood_marked marks front from to h = flood_next marks front from to (λ t. h)

  pub flood_apart : (marks : List Bool) (front : List ℕ) (from to : ℕ) → (AreNeighbours parts from to → ⊥) → IsFlood parts (IsUntried from to) marks front → IsFlood parts (IsUntried from (to + 1)) marks front
  flood_apart marks front from to n = flood_next marks front from to (λ t. absurd (n t))

  -- the second part of a pair becomes marked
  pub flood_reaches : (marks : List Bool) (front : List ℕ) (from to : ℕ) → to < length parts → IsFlood parts (IsUntried from to) marks front → IsFlood parts (IsUntried from (to + 1)) (set marks to true) (front ++ to ∷ [])
  flood_reaches marks front from to l f =
      flood_marked (set marks to true) (front ++ to ∷ []) from to
      (get_or-set_same marks to true false (subst (λ n. to < n) (sym f.each) l)) (flood_more (IsUntried from to) marks front to l f)

  -- a part next to a marked one may be marked
  pub flooded_more : (marks : List Bool) (from to : ℕ) → IsMarked marks from → AreNeighbours parts from to → StayFlooded parts marks (set marks to true)
  flooded_more marks from to h t seeds are j k = by (now_marked marks to j k)
    where
      by : (j ≡ to) ⊎ IsMarked marks j → IsFlooded parts seeds j
      by (inl e) = subst (IsFlooded parts seeds) (sym e) (goes_on from to (are from h) t)
      by (inr m) = are j m

  -- a flood begins with its seeds in front
  pub flood_begins : (seeds : List Bool) (front : List ℕ) → length seeds ≡ length parts → IsFrontOf seeds front → IsFlood parts IsNoPair seeds front
  flood_begins seeds front e f = record { each = e; front_is = f.marked; spread = λ i j h t. inr (inl (f.all i h)) }

  module _ (seeds marks : List Bool) (f : IsFlood parts IsNoPair marks []) (stay : StayMarked seeds marks) where
    all_marked : (i : ℕ) → IsFlooded parts seeds i → IsMarked marks i
    all_marked i (begins _ h) = stay i h
    all_marked j (goes_on i _ h t) = by (f.spread i j (all_marked i h) t)
      where
        by : IsMarked marks j ⊎ (Contains [] i ⊎ IsNoPair i j) → IsMarked marks j
        by (inl m) = m
        by (inr (inl c)) = absurd (has_none i c)
        by (inr (inr n)) = absurd n

    -- with nothing in front all is flooded
    pub flood_ends : StayFlooded parts seeds marks → AreAllFlooded parts seeds marks
    flood_ends sound = record { each = f.each; sound = sound seeds (λ i h. begins i h); all = all_marked }

-- one mark more is one blank less
pub blank-set : (marks : List Bool) (i : ℕ) → i < length marks → get_or marks i false ≡ false → sum_by blank (set marks i true) + 1 ≡ sum_by blank marks
blank-set marks i l e =
    let one : blank (get_or marks i false) ≡ 1 = ap blank e in
    let moved = sum_by-set blank marks i true false l in
    omega (arith, one, moved)

-- a mark that is read
pub mark_read : (marks : List Bool) (i : ℕ) (m : Bool) → i < length marks → m ≡ get_or marks i m → get_or marks i false ≡ m
mark_read marks i m l e = get_or_default marks i false m l ∙ sym e

module _ (parts : List Rect) (i j : ℕ) (p q : Rect) (here : p ≡ get_or parts i p) (there : q ≡ get_or parts j q) where
  -- parts that are read at their numbers are next to one another as their numbers say
  pub next_of_numbers : AreNeighbours parts i j → AreNext p q
  next_of_numbers h =
      let e = here ∙ get_or_from_slice_get parts i h.one p h.is_one in
      let f = there ∙ get_or_from_slice_get parts j h.other q h.is_other in
      subst (λ x. AreNext x q) (sym e) (subst (AreNext h.one) (sym f) h.next)

  pub numbers_next : i < length parts → j < length parts → AreNext p q → AreNeighbours parts i j
  numbers_next l m t = record {
    one = p;
    other = q;
    is_one = slice_get_read parts (length parts) i p refl l here;
    is_other = slice_get_read parts (length parts) j q refl m there;
    next = t;
  }
