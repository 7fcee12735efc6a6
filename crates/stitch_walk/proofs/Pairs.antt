-- Lists all of whose pairs are related, when one item is added at the end.
use Rattle.std.proofs.Common.{ℕ, zero, suc, ◌≡◌, ◌+◌, ◌<◌, ◌⊎◌, inl, inr, List, [], ◌∷◌, ◌++◌, length, get_or, take, Contains, AllPairs, refl, sym, subst, ◌∙◌, arith}
use Rattle.std.proofs.Math.ListN.{get_or-append}
use Rattle.std.proofs.Math.Seq.{get_or-append_seam}
use Rattle.std.proofs.lemmas.List.{length-append, length-take, get_or-append-add, get_or-take, append-nil, append_assoc}
use Rattle.std.proofs.lemmas.List.Elements.{Contains-append_cases}
use Rattle.plane_core.proofs.Members.{has_cases, has_none}

module _ {X : Type 0} (R : X → X → Type 0) where
  pub pairs_none : AllPairs R []
  pairs_none i j d less within = let h : j < 0 = within in absurd (omega arith)

  pub pairs_added : (xs : List X) (x : X) → AllPairs R xs → ((y : X) → Contains xs y → R y x) → AllPairs R (xs ++ x ∷ [])
  pairs_added xs x all last i j d less within = by_place (split j (length xs) (omega (arith, length-append xs (x ∷ []))))
    where
      split : (a n : ℕ) → a < n + 1 → (a < n) ⊎ (a ≡ n)
      split a n h = grind arith

      at_end : i < length xs → R (get_or (xs ++ x ∷ []) i d) x
      at_end h =
          let e : get_or (xs ++ x ∷ []) i d ≡ get_or xs i d = get_or-append xs (x ∷ []) d i h in
          let P : X → Type 0 = λ y. R y x in
          subst P (sym e) (last (get_or xs i d) (i, h, default_free xs i d h))
        where
          default_free : (ys : List X) (k : ℕ) (e : X) → k < length ys → get_or ys k (get_or ys k e) ≡ get_or ys k e
          default_free [] k e h = let l : k < 0 = h in absurd (omega arith)
          default_free (y ∷ ys) zero e h = refl
          default_free (y ∷ ys) (suc k) e h = default_free ys k e (omega arith)

      by_place : (j < length xs) ⊎ (j ≡ length xs) → R (get_or (xs ++ x ∷ []) i d) (get_or (xs ++ x ∷ []) j d)
      by_place (inl h) =
          let e : get_or (xs ++ x ∷ []) i d ≡ get_or xs i d = get_or-append xs (x ∷ []) d i (omega arith) in
          let f : get_or (xs ++ x ∷ []) j d ≡ get_or xs j d = get_or-append xs (x ∷ []) d j h in
          let P : X → Type 0 = λ y. R y (get_or (xs ++ x ∷ []) j d) in
          let Q : X → Type 0 = λ y. R (get_or xs i d) y in
          subst P (sym e) (subst Q (sym f) (all i j d less h))
      by_place (inr h) =
          let P : ℕ → Type 0 = λ k. R (get_or (xs ++ x ∷ []) i d) (get_or (xs ++ x ∷ []) k d) in
          let f : get_or (xs ++ x ∷ []) (length xs) d ≡ x = get_or-append_seam xs x [] d in
          let Q : X → Type 0 = λ y. R (get_or (xs ++ x ∷ []) i d) y in
          subst P (sym h) (subst Q (sym f) (at_end (omega arith)))

-- within a list the value given for outside it does not matter
other_default : {X : Type 0} (ys : List X) (k : ℕ) (d e : X) → k < length ys → get_or ys k d ≡ get_or ys k e
other_default [] k d e h = let l : k < 0 = h in absurd (omega arith)
other_default (y ∷ ys) zero d e h = refl
other_default (y ∷ ys) (suc k) d e h = other_default ys k d e (omega arith)

-- what a list with one more item contains
pub last_cases : {X : Type 0} (xs : List X) (x y : X) → Contains (xs ++ x ∷ []) y → Contains xs y ⊎ (x ≡ y)
last_cases xs x y h =
    elim (Contains-append_cases xs (x ∷ []) y h) [
      | inl before ↦ inl before
      | inr here ↦ elim (has_cases x [] y here) [ inl e ↦ inr e | inr none ↦ absurd (has_none y none) ]
    ]

module _ {X : Type 0} (R : X → X → Type 0) where
  -- of two lists, each item of the first is related to each of the second
  pub pairs_before : (xs ys : List X) (x y : X) → AllPairs R (xs ++ ys) → Contains xs x → Contains ys y → R x y
  pairs_before xs ys x y all (i, h, e) (j, k, f) =
      let a : get_or (xs ++ ys) i x ≡ x = get_or-append xs ys x i h ∙ e in
      let b : get_or (xs ++ ys) (length xs + j) y ≡ y = get_or-append-add xs ys j y ∙ f in
      let c : get_or (xs ++ ys) (length xs + j) x ≡ y = other_default (xs ++ ys) (length xs + j) x y (omega (arith, length-append xs ys)) ∙ b in
      let P : X → Type 0 = λ z. R z y in
      let Q : X → Type 0 = λ z. R (get_or (xs ++ ys) i x) z in
      subst P a (subst Q c (all i (length xs + j) x (omega arith) (omega (arith, length-append xs ys))))

  pub pairs_take : (xs : List X) (n : ℕ) → AllPairs R xs → AllPairs R (take n xs)
  pairs_take xs n all i j d less within =
      let m : j < n = omega (arith, length-take n xs) in
      let w : j < length xs = omega (arith, length-take n xs) in
      let k : i < n = omega arith in
      let P : X → Type 0 = λ z. R z (get_or (take n xs) j d) in
      let Q : X → Type 0 = λ z. R (get_or xs i d) z in
      subst P (sym (get_or-take n xs i d k)) (subst Q (sym (get_or-take n xs j d m)) (all i j d less w))

  pub pairs_joined : (xs ys : List X) → AllPairs R xs → AllPairs R ys → ((x y : X) → Contains xs x → Contains ys y → R x y) → AllPairs R (xs ++ ys)
  pairs_joined xs [] all some cross = let P : List X → Type 0 = λ l. AllPairs R l in subst P (sym (append-nil xs)) all
  pairs_joined xs (y ∷ ys) all some cross =
      let one : AllPairs R (xs ++ y ∷ []) = pairs_added R xs y all (λ x h. cross x y h (0, omega arith, refl)) in
      let later : AllPairs R ys = λ i j d less within. some (suc i) (suc j) d (omega arith) (omega arith) in
      let rest : AllPairs R ((xs ++ y ∷ []) ++ ys) = pairs_joined (xs ++ y ∷ []) ys one later (λ x z h k. elim (last_cases xs y x h) [
        | inl before ↦ cross x z before (suc k.0, omega (arith, k.1), k.2)
        | inr same ↦
            let first : R y (get_or ys k.0 z) = some 0 (suc k.0) z (omega arith) (omega (arith, k.1)) in
            let P : X → Type 0 = λ w. R w z in
            let Q : X → Type 0 = λ w. R y w in
            subst P same (subst Q k.2 first)
      ]) in
      let P : List X → Type 0 = λ l. AllPairs R l in
      subst P (append_assoc xs (y ∷ []) ys) rest

-- a list contains what stands at a place of it
pub contains_at : {X : Type 0} (xs : List X) (k : ℕ) (d : X) → k < length xs → Contains xs (get_or xs k d)
contains_at xs k d h = (k, h, other_default xs k (get_or xs k d) d h)
