-- What holds of each item of a list at its place, as the list grows at its end.
use Rattle.std.proofs.Common.{◌≡◌, ℕ, zero, suc, ◌+◌, List, [], ◌∷◌, ◌++◌, length, map, Some, ◌⊎◌, inl, inr, refl, sym, ◌∙◌, ap, subst, arith}
use Rattle.std.specs.Prelude.{slice_get}
use Rattle.std.proofs.lemmas.List.{length_push}
use Rattle.std.proofs.lemmas.Option.{none-some, same_Some, slice_get_within}
use Rattle.plane_set.specs.Places.{EachAt, EachPair}

get_front : {A : Type 0} (xs : List A) (y : A) (n : ℕ) (x : A) → slice_get xs n ≡ Some x → slice_get (xs ++ y ∷ []) n ≡ Some x
get_front [] y n x e = absurd (none-some x e)
get_front (z ∷ xs) y zero x e = e
get_front (z ∷ xs) y (suc n) x e = get_front xs y n x e

get_last : {A : Type 0} (xs : List A) (y : A) → slice_get (xs ++ y ∷ []) (length xs) ≡ Some y
get_last [] y = refl
get_last (z ∷ xs) y = get_last xs y

get_cases : {A : Type 0} (xs : List A) (y : A) (n : ℕ) (x : A) → slice_get (xs ++ y ∷ []) n ≡ Some x → (slice_get xs n ≡ Some x) ⊎ ((n ≡ length xs) × (y ≡ x))
get_cases [] y zero x e = inr (refl, same_Some y x e)
get_cases [] y (suc n) x e = absurd (none-some x e)
get_cases (z ∷ xs) y zero x e = inl e
get_cases (z ∷ xs) y (suc n) x e = elim (get_cases xs y n x e) [ inl k ↦ inl k | inr k ↦ inr (ap suc k.0, k.1) ]

module _ {A : Type 0} (Is : ℕ → A → Type 0) where
  pub each_none : EachAt Is []
  each_none n x e = absurd (none-some x e)

  pub each_push : (xs : List A) (x : A) → EachAt Is xs → Is (length xs) x → EachAt Is (xs ++ x ∷ [])
  each_push xs x h k n y e =
      elim (get_cases xs x n y e) [
        | inl before ↦ h n y before
        | inr here ↦ subst (λ (m : ℕ). Is m y) (sym here.0) (subst (λ (z : A). Is (length xs) z) here.1 k)
      ]

  pub each_front : (xs : List A) (x : A) → EachAt Is (xs ++ x ∷ []) → EachAt Is xs
  each_front xs x h n y e = h n y (get_front xs x n y e)

  pub each_last : (xs : List A) (x : A) → EachAt Is (xs ++ x ∷ []) → Is (length xs) x
  each_last xs x h = h (length xs) x (get_last xs x)

pub each_mapped : {A B : Type 0} (f : A → B) (Is : ℕ → B → Type 0) (xs : List A) → EachAt (λ n x. Is n (f x)) xs → EachAt Is (map f xs)
each_mapped f Is [] h n y e = absurd (none-some y e)
each_mapped f Is (x ∷ xs) h zero y e = subst (λ z. Is zero z) (same_Some (f x) y e) (h zero x refl)
each_mapped f Is (x ∷ xs) h (suc n) y e = each_mapped f (λ m. Is (suc m)) xs (λ m z k. h (suc m) z k) n y e

pub get_mapped : {A B : Type 0} (f : A → B) (xs : List A) (n : ℕ) (x : A) → slice_get xs n ≡ Some x → slice_get (map f xs) n ≡ Some (f x)
get_mapped f [] n x e = absurd (none-some x e)
get_mapped f (z ∷ xs) zero x e = ap (λ y. Some (f y)) (same_Some z x e)
get_mapped f (z ∷ xs) (suc n) x e = get_mapped f xs n x e

pub each_unmapped : {A B : Type 0} (f : A → B) (Is : ℕ → B → Type 0) (xs : List A) → EachAt Is (map f xs) → EachAt (λ n x. Is n (f x)) xs
each_unmapped f Is xs h n x e = h n (f x) (get_mapped f xs n x e)

-- two lists that grow together
pub each_more : {A B : Type 0} (Old : ℕ → A → Type 0) (New : ℕ → B → Type 0) (xs : List A) (ys : List B) (x : A) (y : B) (n : ℕ) → n ≡ length xs → length ys ≡ length xs → (EachAt Old xs → EachAt New ys) → (Old n x → New n y) → EachAt Old (xs ++ x ∷ []) → EachAt New (ys ++ y ∷ [])
each_more Old New xs ys x y n at same before step h =
    let last : Old n x = subst (λ (m : ℕ). Old m x) (sym at) (each_last Old xs x h) in
    let here : New (length ys) y = subst (λ (m : ℕ). New m y) (at ∙ sym same) (step last) in
    each_push New ys y (before (each_front Old xs x h)) here

pub length_both : {A B : Type 0} (xs : List A) (ys zs : List B) (x : A) (y : B) → zs ≡ ys ++ y ∷ [] → length ys ≡ length xs → length zs ≡ length (xs ++ x ∷ [])
length_both xs ys zs x y e h = ap length e ∙ length_push ys y ∙ ap (λ n. n + 1) h ∙ sym (length_push xs x)

-- items of two lists, pair by pair
get_beside : {A B : Type 0} (xs : List A) (ys : List B) (n : ℕ) (y : B) → length ys ≡ length xs → slice_get ys n ≡ Some y → (x : A) × (slice_get xs n ≡ Some x)
get_beside [] [] n y l e = absurd (none-some y e)
get_beside [] (z ∷ ys) n y l e = absurd (omega arith)
get_beside (x ∷ xs) [] n y l e = absurd (omega arith)
get_beside (x ∷ xs) (z ∷ ys) zero y l e = (x, refl)
get_beside (x ∷ xs) (z ∷ ys) (suc n) y l e = get_beside xs ys n y (omega arith) e

module _ {A B : Type 0} (Are : ℕ → A → B → Type 0) where
  pub pairs_push : (xs : List A) (ys : List B) (x : A) (y : B) → length ys ≡ length xs → EachPair Are xs ys → Are (length xs) x y → EachPair Are (xs ++ x ∷ []) (ys ++ y ∷ [])
  pairs_push xs ys x y l h step n v w e k =
      elim (get_cases xs x n v e) [
        | inl before ↦ elim (get_cases ys y n w k) [
          | inl also ↦ h n v w before also
          | inr there ↦ absurd (omega (arith, there.0, slice_get_within xs n v before))
        ]
        | inr here ↦ elim (get_cases ys y n w k) [
          | inl also ↦ absurd (omega (arith, here.0, slice_get_within ys n w also))
          | inr there ↦ subst (λ (m : ℕ). Are m v w) (sym here.0) (subst (λ (z : A). Are (length xs) z w) here.1 (subst (λ (z : B). Are (length xs) x z) there.1 step))
        ]
      ]

  -- what holds of each item beside one of which something holds
  pub each_beside : (Old : ℕ → A → Type 0) (New : ℕ → B → Type 0) (xs : List A) (ys : List B) → length ys ≡ length xs → ((n : ℕ) (x : A) (y : B) → slice_get xs n ≡ Some x → slice_get ys n ≡ Some y → Are n x y → Old n x → New n y) → EachPair Are xs ys → EachAt Old xs → EachAt New ys
  each_beside Old New xs ys l step pairs h n y e =
      let beside = get_beside xs ys n y l e in
      step n beside.0 y beside.1 e (pairs n beside.0 y beside.1 e) (h n beside.0 beside.1)

unmapped_get : {A B : Type 0} (f : A → B) (xs : List A) (n : ℕ) (y : B) → slice_get (map f xs) n ≡ Some y → (x : A) × ((slice_get xs n ≡ Some x) × (f x ≡ y))
unmapped_get f [] n y e = absurd (none-some y e)
unmapped_get f (x ∷ xs) zero y e = (x, (refl, same_Some (f x) y e))
unmapped_get f (x ∷ xs) (suc n) y e = unmapped_get f xs n y e

pub pairs_mapped : {A B C D : Type 0} (f : A → C) (g : B → D) (Are : ℕ → C → D → Type 0) (xs : List A) (ys : List B) → EachPair (λ n x y. Are n (f x) (g y)) xs ys → EachPair Are (map f xs) (map g ys)
pairs_mapped {A} {B} {C} {D} f g Are xs ys h n c d e k =
    let x = unmapped_get f xs n c e in
    let y = unmapped_get g ys n d k in
    subst (λ (z : D). Are n c z) y.1.1 (subst (λ (z : C). Are n z (g y.0)) x.1.1 (h n x.0 y.0 x.1.0 y.1.0))
