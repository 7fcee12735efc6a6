-- How a flood goes on: from nothing, from a piece, and over what touches it.
use Rattle.std.proofs.Common.{◌≡◌, ℕ, ◌+◌, ◌<◌, ◌≤◌, ◌≢◌, List, [], ◌∷◌, ◌++◌, length, set, get_or, ap, sym, ◌∙◌, subst, true, false, ◌⊎◌, inl, inr, arith}
use Rattle.std.specs.Prelude.{Option, Some, None, Contains, slice_get, is_some, unwrap_or, map, sum_by}
use Rattle.std.proofs.lemmas.Bool.{cases_lt, cases_eq, false≢true}
use Rattle.std.proofs.lemmas.List.{get_or-set_same, get_or-set_other, length-set, get_or_default, length-map, get_or-map}
use Rattle.std.proofs.lemmas.List.Elements.{Contains-append_left, Contains-push, Contains-push_cases}
use Rattle.std.proofs.lemmas.List.Sums.{sum_by-set}
use Rattle.std.proofs.lemmas.Option.{none-some, slice_get_within, get_or_from_slice_get}
use Rattle.net_trace.specs.declared.copper.Piece.{Piece}
use Rattle.net_trace.specs.Flooding.{group_at, IsReached, IsUntried, IsNoPair, IsFlood, StayReached, blank}
use Rattle.net_trace.specs.Touching.{AreTouching, IsChain, AreJoined, IsLeastJoined, AreGroupNumbers}
use Rattle.net_trace.proofs.Listing.{Contains-nil}
use Rattle.net_trace.proofs.Joining.{AreTouching-flip, second_known, joined_to_itself, IsLeastJoined-touch}

-- where no group is known, none is reached
unreached : (groups : List (Option ℕ)) (i : ℕ) → group_at groups i ≡ None → IsReached groups i → ⊥
unreached groups i e h = none-some h.0 (sym e ∙ h.1)

-- what was reached is so after a group more is known of a piece of which none was
pub reached_still : (groups : List (Option ℕ)) (i g : ℕ) → group_at groups i ≡ None → StayReached groups (set groups i (Some g))
reached_still groups i g e j h = by (cases_eq j i)
  where
    by : (j ≡ i) ⊎ (j ≢ i) → IsReached (set groups i (Some g)) j
    by (inl s) = absurd (unreached groups j (ap (group_at groups) s ∙ e) h)
    by (inr d) = (h.0, get_or-set_other groups i j (Some g) None d ∙ h.1)

-- a piece of which a group is known now is the new one, or its group was known
now_reached : (groups : List (Option ℕ)) (i g : ℕ) → i < length groups → (j k : ℕ) → group_at (set groups i (Some g)) j ≡ Some k → ((j ≡ i) × (g ≡ k)) ⊎ (group_at groups j ≡ Some k)
now_reached groups i g l j k h = by (cases_eq j i)
  where
    by : (j ≡ i) ⊎ (j ≢ i) → ((j ≡ i) × (g ≡ k)) ⊎ (group_at groups j ≡ Some k)
    by (inl s) = inl (s, ap (λ (o : Option ℕ). unwrap_or o 0) (sym (get_or-set_same groups i (Some g) None l) ∙ ap (group_at (set groups i (Some g))) (sym s) ∙ h))
    by (inr d) = inr (sym (get_or-set_other groups i j (Some g) None d) ∙ h)

module _ (pieces : List Piece) where
  -- where nothing is left to try, a chain from a piece that is not reached leads to none that is
  chain_unreached : (group : ℕ) (groups : List (Option ℕ)) → IsFlood pieces group IsNoPair groups [] → (i : ℕ) → (IsReached groups i → ⊥) → (ks : List ℕ) (j : ℕ) → IsChain pieces i ks j → IsReached groups j → ⊥
  chain_unreached group groups f i n [] j e h = n (subst (IsReached groups) (sym e) h)
  chain_unreached group groups f i n (k ∷ ks) j c h = chain_unreached group groups f k (λ r. back (f.spread k i r (AreTouching-flip pieces i k c.0))) ks j c.1 h
    where
      back : IsReached groups i ⊎ (Contains [] k ⊎ IsNoPair k i) → ⊥
      back (inl r) = n r
      back (inr (inl r)) = Contains-nil k r
      back (inr (inr r)) = r

  -- a piece that is not reached, while all before it are, is the first of its group
  first_of_group : (group : ℕ) (groups : List (Option ℕ)) → IsFlood pieces group IsNoPair groups [] → (i : ℕ) → i < length pieces → (IsReached groups i → ⊥) → ((j : ℕ) → j < i → IsReached groups j) → IsLeastJoined pieces i i
  first_of_group group groups f i l n before = record { joined = joined_to_itself pieces i l; least = λ m h. by m h (cases_lt m i) }
    where
      by : (m : ℕ) → AreJoined pieces i m → (m < i) ⊎ (i ≤ m) → i ≤ m
      by m h (inl s) = absurd (chain_unreached group groups f i n h.numbers m h.chain (before m s))
      by m h (inr s) = s

  -- with an empty front the flood is one of any group
  pub flood_of_any : (g k : ℕ) (groups : List (Option ℕ)) (front : List ℕ) → front ≡ [] → IsFlood pieces g IsNoPair groups front → IsFlood pieces k IsNoPair groups front
  flood_of_any g k groups front e f = record {
    each = f.each;
    right = f.right;
    front_is = λ i h. absurd (Contains-nil i (subst (λ fs. Contains fs i) e h));
    spread = f.spread;
  }

  -- a group more: its piece is put to the front
  module _ (left : ℕ → ℕ → Type 0) (group : ℕ) (groups : List (Option ℕ)) (front : List ℕ) (f : IsFlood pieces group left groups front) (i : ℕ) (l : i < length pieces) (e : group_at groups i ≡ None) (least : IsLeastJoined pieces i group) where
    within : i < length groups
    within = subst (λ n. i < n) (sym f.each) l

    right_more : (j g : ℕ) → group_at (set groups i (Some group)) j ≡ Some g → IsLeastJoined pieces j g
    right_more j g h = by (now_reached groups i group within j g h)
      where
        by : ((j ≡ i) × (group ≡ g)) ⊎ (group_at groups j ≡ Some g) → IsLeastJoined pieces j g
        by (inl s) = subst (λ m. IsLeastJoined pieces m g) (sym s.0) (subst (IsLeastJoined pieces i) s.1 least)
        by (inr s) = f.right j g s

    front_more : (j : ℕ) → Contains (front ++ i ∷ []) j → group_at (set groups i (Some group)) j ≡ Some group
    front_more j h = by (Contains-push_cases front i j h) (cases_eq j i)
      where
        by : Contains front j ⊎ (i ≡ j) → (j ≡ i) ⊎ (j ≢ i) → group_at (set groups i (Some group)) j ≡ Some group
        by s (inl same) = ap (group_at (set groups i (Some group))) same ∙ get_or-set_same groups i (Some group) None within
        by (inl s) (inr d) = get_or-set_other groups i j (Some group) None d ∙ f.front_is j s
        by (inr s) (inr d) = absurd (d (sym s))

    spread_more : (j k : ℕ) → IsReached (set groups i (Some group)) j → AreTouching pieces j k → IsReached (set groups i (Some group)) k ⊎ (Contains (front ++ i ∷ []) j ⊎ left j k)
    spread_more j k h t = by (now_reached groups i group within j h.0 h.1)
      where
        later : IsReached groups k ⊎ (Contains front j ⊎ left j k) → IsReached (set groups i (Some group)) k ⊎ (Contains (front ++ i ∷ []) j ⊎ left j k)
        later (inl r) = inl (reached_still groups i group e k r)
        later (inr (inl r)) = inr (inl (Contains-append_left front (i ∷ []) j r))
        later (inr (inr r)) = inr (inr r)

        by : ((j ≡ i) × (group ≡ h.0)) ⊎ (group_at groups j ≡ Some h.0) → IsReached (set groups i (Some group)) k ⊎ (Contains (front ++ i ∷ []) j ⊎ left j k)
        by (inl s) = inr (inl (subst (Contains (front ++ i ∷ [])) (sym s.0) (Contains-push front i)))
        by (inr s) = later (f.spread j k (h.0, s) t)

    pub flood_more : IsFlood pieces group left (set groups i (Some group)) (front ++ i ∷ [])
    flood_more = record { each = length-set groups i (Some group) ∙ f.each; right = right_more; front_is = front_more; spread = spread_more }

  -- from the first piece of a group, where nothing else is left to do
  pub flood_begins : (groups : List (Option ℕ)) (front fs : List ℕ) (i : ℕ) → front ≡ [] → fs ≡ front ++ i ∷ [] → IsFlood pieces i IsNoPair groups front → i < length pieces → group_at groups i ≡ None → ((j : ℕ) → j < i → IsReached groups j) → IsFlood pieces i IsNoPair (set groups i (Some i)) fs
  flood_begins groups front fs i n e f l blank before =
      let g = subst (IsFlood pieces i IsNoPair groups) n f in
      subst (IsFlood pieces i IsNoPair (set groups i (Some i))) (sym e) (flood_more IsNoPair i groups front f i l blank (first_of_group i groups g i l (unreached groups i blank) before))

  -- the last of the front is taken from it, and no pair of it is tried
  pub flood_takes : (group : ℕ) (groups : List (Option ℕ)) (front : List ℕ) (from : ℕ) → IsFlood pieces group IsNoPair groups (front ++ from ∷ []) → IsFlood pieces group (IsUntried from 0) groups front
  flood_takes group groups front from f = record {
    each = f.each;
    right = f.right;
    front_is = λ i h. f.front_is i (Contains-append_left front (from ∷ []) i h);
    spread = λ i j h t. by i j (f.spread i j h t);
  }
    where
      at : (i j : ℕ) → Contains front i ⊎ (from ≡ i) → Contains front i ⊎ IsUntried from 0 i j
      at i j (inl h) = inl h
      at i j (inr e) = inr (record { source = sym e; later = omega arith })

      by : (i j : ℕ) → IsReached groups j ⊎ (Contains (front ++ from ∷ []) i ⊎ IsNoPair i j) → IsReached groups j ⊎ (Contains front i ⊎ IsUntried from 0 i j)
      by i j (inl h) = inl h
      by i j (inr (inl h)) = inr (at i j (Contains-push_cases front from i h))
      by i j (inr (inr h)) = absurd h

  -- every pair of it is tried
  pub flood_tried : (group : ℕ) (groups : List (Option ℕ)) (front : List ℕ) (from n : ℕ) → length pieces ≤ n → IsFlood pieces group (IsUntried from n) groups front → IsFlood pieces group IsNoPair groups front
  flood_tried group groups front from n l f = record { each = f.each; right = f.right; front_is = f.front_is; spread = λ i j h t. by i j t (f.spread i j h t) }
    where
      by : (i j : ℕ) → AreTouching pieces i j → IsReached groups j ⊎ (Contains front i ⊎ IsUntried from n i j) → IsReached groups j ⊎ (Contains front i ⊎ IsNoPair i j)
      by i j t (inl h) = inl h
      by i j t (inr (inl h)) = inr (inl h)
      by i j t (inr (inr h)) = let k = second_known pieces i j t in absurd (omega (arith, k, h.later))

  -- one pair more is tried, whose second piece is reached, or does not touch the first
  flood_next : (group : ℕ) (groups : List (Option ℕ)) (front : List ℕ) (from to : ℕ) → (AreTouching pieces from to → IsReached groups to) → IsFlood pieces group (IsUntried from to) groups front → IsFlood pieces group (IsUntried from (to + 1)) groups front
  flood_next group groups front from to r f = record { each = f.each; right = f.right; front_is = f.front_is; spread = λ i j h t. by i j t (f.spread i j h t) }
    where
      at : (i j : ℕ) → AreTouching pieces i j → IsUntried from to i j → (j ≡ to) ⊎ (j ≢ to) → IsReached groups j ⊎ (Contains front i ⊎ IsUntried from (to + 1) i j)
      at i j t u (inl e) = inl (subst (IsReached groups) (sym e) (r (subst (λ k. AreTouching pieces k to) u.source (subst (AreTouching pieces i) e t))))
      at i j t u (inr d) = inr (inr (record { source = u.source; later = omega (arith, u.later, d) }))

      by : (i j : ℕ) → AreTouching pieces i j → IsReached groups j ⊎ (Contains front i ⊎ IsUntried from to i j) → IsReached groups j ⊎ (Contains front i ⊎ IsUntried from (to + 1) i j)
      by i j t (inl h) = inl h
      by i j t (inr (inl h)) = inr (inl h)
      by i j t (inr (inr u)) = at i j t u (cases_eq j to)

  pub flood_reached : (group : ℕ) (groups : List (Option ℕ)) (front : List ℕ) (from to : ℕ) → IsReached groups to → IsFlood pieces group (IsUntried from to) groups front → IsFlood pieces group (IsUntried from (to + 1)) groups front
  flood_reached group groups front from to h = flood_next group groups front from to (λ t. h)

  pub flood_apart : (group : ℕ) (groups : List (Option ℕ)) (front : List ℕ) (from to : ℕ) → (AreTouching pieces from to → ⊥) → IsFlood pieces group (IsUntried from to) groups front → IsFlood pieces group (IsUntried from (to + 1)) groups front
  flood_apart group groups front from to n = flood_next group groups front from to (λ t. absurd (n t))

  -- the second piece of a pair touches the first, and is reached
  pub flood_reaches : (group : ℕ) (groups : List (Option ℕ)) (front : List ℕ) (from to : ℕ) → group_at groups from ≡ Some group → group_at groups to ≡ None → AreTouching pieces from to → IsFlood pieces group (IsUntried from to) groups front → IsFlood pieces group (IsUntried from (to + 1)) (set groups to (Some group)) (front ++ to ∷ [])
  flood_reaches group groups front from to s e t f =
      let l = second_known pieces from to t in
      let more = flood_more (IsUntried from to) group groups front f to l e (IsLeastJoined-touch pieces from to group t (f.right from group s)) in
      flood_reached group (set groups to (Some group)) (front ++ to ∷ []) from to (group, get_or-set_same groups to (Some group) None (subst (λ n. to < n) (sym f.each) l)) more

-- a group more is one blank less
pub blank-set : (groups : List (Option ℕ)) (i g : ℕ) → i < length groups → group_at groups i ≡ None → sum_by blank (set groups i (Some g)) + 1 ≡ sum_by blank groups
blank-set groups i g l e =
    let one : blank (group_at groups i) ≡ 1 = ap blank e in
    let moved = sum_by-set blank groups i (Some g) None l in
    omega (arith, one, moved)

-- what is read of a group tells whether it is known
pub reached_if_some : (groups : List (Option ℕ)) (i : ℕ) (o : Option ℕ) → i < length groups → o ≡ get_or groups i o → is_some o ≡ true → IsReached groups i
reached_if_some groups i None l e t = absurd (false≢true t)
reached_if_some groups i (Some g) l e t = (g, get_or_default groups i None (Some g) l ∙ sym e)

pub blank_if_none : (groups : List (Option ℕ)) (i : ℕ) (o : Option ℕ) → i < length groups → o ≡ get_or groups i o → is_some o ≡ false → group_at groups i ≡ None
blank_if_none groups i None l e t = sym e
blank_if_none groups i (Some g) l e t = absurd (false≢true (sym t))

-- with every group known, the groups are the right numbers
pub numbers_right : (pieces : List Piece) (group : ℕ) (left : ℕ → ℕ → Type 0) (groups : List (Option ℕ)) (front : List ℕ) → IsFlood pieces group left groups front → ((i : ℕ) → i < length pieces → IsReached groups i) → AreGroupNumbers pieces (map (λ (g : Option ℕ). unwrap_or g 0) groups)
numbers_right pieces group left groups front f all = record {
  each = length-map groups (λ (g : Option ℕ). unwrap_or g 0) ∙ f.each;
  least = λ i n h. by i n h;
}
  where
    by : (i n : ℕ) → slice_get (map (λ (g : Option ℕ). unwrap_or g 0) groups) i ≡ Some n → IsLeastJoined pieces i n
    by i n h =
        let l = slice_get_within (map (λ (g : Option ℕ). unwrap_or g 0) groups) i n h in
        let m = length-map groups (λ (g : Option ℕ). unwrap_or g 0) in
        let k : i < length groups = omega (arith, l, m) in
        let r = all i (omega (arith, k, f.each)) in
        let same : unwrap_or (group_at groups i) 0 ≡ n = sym (get_or-map (λ (g : Option ℕ). unwrap_or g 0) groups i None 0 k) ∙ get_or_from_slice_get (map (λ (g : Option ℕ). unwrap_or g 0) groups) i n 0 h in
        f.right i n (r.1 ∙ ap Some (sym (ap (λ (o : Option ℕ). unwrap_or o 0) r.1) ∙ same))

-- one piece more is reached
pub reached_more : (old new : List (Option ℕ)) (n : ℕ) → ((i : ℕ) → i < n → IsReached old i) → StayReached old new → IsReached new n → (i : ℕ) → i < n + 1 → IsReached new i
reached_more old new n before stay here i l = by (cases_eq i n)
  where
    by : (i ≡ n) ⊎ (i ≢ n) → IsReached new i
    by (inl e) = subst (IsReached new) (sym e) here
    by (inr d) = stay i (before i (omega (arith, l, d)))
