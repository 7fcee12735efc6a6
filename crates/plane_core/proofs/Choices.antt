-- How a loop over strips in order chooses some of them.
use Rattle.std.proofs.Common.{ℕ, zero, suc, ◌+◌, ◌<◌, ◌≡◌, sym, subst, List, [], ◌∷◌, ◌++◌, inl, inr, length, take, get_or, Contains, arith}
use Rattle.std.proofs.lemmas.List.{take_more}
use Rattle.std.proofs.lemmas.List.Elements.{Contains-append_left, Contains-append_right, Contains-append_cases, Contains-get_or}
use Rattle.std.proofs.Math.Seq.{take-length}
use Rattle.plane_core.specs.declared.strips.Strip.{Strip}
use Rattle.plane_core.specs.Choice.{IsChoice}
use Rattle.plane_core.specs.Strips.{IsInOrder, Precedes}
use Rattle.plane_core.proofs.Members.{has_cases, has_head, has_none, has_tail}

pub has_one : {A : Type 0} (x y : A) → Contains (x ∷ []) y → x ≡ y
has_one x y h = elim (has_cases x [] y h) [ inl e ↦ e | inr k ↦ absurd (has_none y k) ]

pub order_append : (xs ys : List Strip) → IsInOrder xs → IsInOrder ys → ((s t : Strip) → Contains xs s → Contains ys t → Precedes s t) → IsInOrder (xs ++ ys)
order_append [] ys o q across = q
order_append (x ∷ xs) ys o q across = (
  λ t h. elim (Contains-append_cases xs ys t h) [ inl k ↦ o.0 t k | inr k ↦ across x t (has_head x xs) k ],
  order_append xs ys o.1 q (λ s t hs ht. across s t (has_tail x xs s hs) ht),
)

pub order_one : (x : Strip) → IsInOrder (x ∷ [])
order_one x = (λ t h. absurd (has_none t h), tt)

pub order_push : (xs : List Strip) (y : Strip) → IsInOrder xs → ((s : Strip) → Contains xs s → Precedes s y) → IsInOrder (xs ++ y ∷ [])
order_push xs y o before =
    order_append xs (y ∷ []) o (order_one y)
    (λ s t hs ht. let P : Strip → Type 0 = λ u. Precedes s u in subst P (has_one y t ht) (before s hs))

-- what stands before an index precedes what stands at it
pub taken_precedes : (xs : List Strip) (i : ℕ) (d s : Strip) → IsInOrder xs → i < length xs → Contains (take i xs) s → Precedes s (get_or xs i d)
taken_precedes [] i d s o lt h = absurd (omega arith)
taken_precedes (x ∷ xs) zero d s o lt h = absurd (has_none s h)
taken_precedes (x ∷ xs) (suc i) d s o lt h =
    let below : i < length xs = omega arith in
    elim (has_cases x (take i xs) s h) [
      | inl e ↦ (let P : Strip → Type 0 = λ u. Precedes u (get_or xs i d) in subst P e (o.0 (get_or xs i d) (Contains-get_or xs i d below)))
      | inr k ↦ taken_precedes xs i d s o.1 below k
    ]

pub taken_listed : {A : Type 0} (xs : List A) (i : ℕ) (s : A) → Contains (take i xs) s → Contains xs s
taken_listed [] zero s h = h
taken_listed [] (suc i) s h = h
taken_listed (x ∷ xs) zero s h = absurd (has_none s h)
taken_listed (x ∷ xs) (suc i) s h =
    elim (has_cases x (take i xs) s h) [
      | inl e ↦ (let P : _ → Type 0 = λ u. Contains (x ∷ xs) u in subst P e (has_head x xs))
      | inr k ↦ has_tail x xs s (taken_listed xs i s k)
    ]

pub choice_none : (W : Strip → Type 0) → IsChoice [] W []
choice_none W = record {
  listed = λ s h. h;
  wanted = λ s h. absurd (has_none s h);
  complete = λ s h w. h;
  in_order = tt;
}

choice_push : (xs found : List Strip) (W : Strip → Type 0) (s : Strip) → ((t : Strip) → Contains xs t → Precedes t s) → W s → IsChoice xs W found → IsChoice (xs ++ s ∷ []) W (found ++ s ∷ [])
choice_push xs found W s before w c = record {
  listed = λ t h. elim (Contains-append_cases found (s ∷ []) t h) [
    | inl k ↦ Contains-append_left xs (s ∷ []) t (c.listed t k)
    | inr k ↦ Contains-append_right xs (s ∷ []) t k
  ];
  wanted = λ t h. elim (Contains-append_cases found (s ∷ []) t h) [
    | inl k ↦ c.wanted t k
    | inr k ↦ subst W (has_one s t k) w
  ];
  complete = λ t h v. elim (Contains-append_cases xs (s ∷ []) t h) [
    | inl k ↦ Contains-append_left found (s ∷ []) t (c.complete t k v)
    | inr k ↦ Contains-append_right found (s ∷ []) t k
  ];
  in_order = order_push found s c.in_order (λ t h. before t (c.listed t h));
}

choice_skip : (xs found : List Strip) (W : Strip → Type 0) (s : Strip) → ¬ W s → IsChoice xs W found → IsChoice (xs ++ s ∷ []) W found
choice_skip xs found W s n c = record {
  listed = λ t h. Contains-append_left xs (s ∷ []) t (c.listed t h);
  wanted = c.wanted;
  complete = λ t h v. elim (Contains-append_cases xs (s ∷ []) t h) [
    | inl k ↦ c.complete t k v
    | inr k ↦ absurd (n (subst W (sym (has_one s t k)) v))
  ];
  in_order = c.in_order;
}

pub taken_more : (xs : List Strip) (i : ℕ) (s : Strip) → i < length xs → s ≡ get_or xs i s → take (i + 1) xs ≡ take i xs ++ s ∷ []
taken_more xs i s lt is =
    let P : Strip → Type 0 = λ u. take (i + 1) xs ≡ take i xs ++ u ∷ [] in subst P (sym is) (take_more xs i s lt)

-- the step of such a loop at a strip that is wanted
pub choice_taken : (xs found : List Strip) (W : Strip → Type 0) (i : ℕ) (s : Strip) → IsInOrder xs → i < length xs → s ≡ get_or xs i s → W s → IsChoice (take i xs) W found → IsChoice (take (i + 1) xs) W (found ++ s ∷ [])
choice_taken xs found W i s o lt is w c =
    let before : (t : Strip) → Contains (take i xs) t → Precedes t s =
    λ t h. (let Q : Strip → Type 0 = λ u. Precedes t u in subst Q (sym is) (taken_precedes xs i s t o lt h)) in
    let P : List Strip → Type 0 = λ l. IsChoice l W (found ++ s ∷ []) in
    subst P (sym (taken_more xs i s lt is)) (choice_push (take i xs) found W s before w c)

-- the step of such a loop at a strip that is not wanted
pub choice_left : (xs found : List Strip) (W : Strip → Type 0) (i : ℕ) (s : Strip) → i < length xs → s ≡ get_or xs i s → ¬ W s → IsChoice (take i xs) W found → IsChoice (take (i + 1) xs) W found
choice_left xs found W i s lt is n c =
    let P : List Strip → Type 0 = λ l. IsChoice l W found in
    subst P (sym (taken_more xs i s lt is)) (choice_skip (take i xs) found W s n c)

-- the end of such a loop
pub choice_whole : (xs found : List Strip) (W : Strip → Type 0) → IsChoice (take (length xs) xs) W found → IsChoice xs W found
choice_whole xs found W c = let P : List Strip → Type 0 = λ l. IsChoice l W found in subst P (take-length xs) c
