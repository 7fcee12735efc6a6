-- Items of a list by their numbers, when one more item comes behind them.
use Rattle.std.proofs.Common.{◌≡◌, ℕ, ◌+◌, ◌⊎◌, inl, inr, List, [], ◌∷◌, ◌++◌, Some, length, sym, ◌∙◌, ap, subst, arith}
use Rattle.std.specs.Prelude.{slice_get}
use Rattle.std.proofs.lemmas.Bool.{cases_lt}
use Rattle.std.proofs.lemmas.List.{length-append, get_or_append_left}
use Rattle.std.proofs.lemmas.Option.{slice_get_within, get_or_from_slice_get, slice_get-get_or}
use Rattle.std.proofs.Math.Seq.{get_or-append_seam}

pub one_more : {A : Type 0} (xs : List A) (x : A) → length (xs ++ x ∷ []) ≡ length xs + 1
one_more xs x = omega (arith, length-append xs (x ∷ []))

pub numbered_kept : {A : Type 0} (xs : List A) (x : A) (k : ℕ) (y : A) → slice_get xs k ≡ Some y → slice_get (xs ++ x ∷ []) k ≡ Some y
numbered_kept xs x k y e =
    let l = slice_get_within xs k y e in
    slice_get-get_or (xs ++ x ∷ []) k y (omega (arith, one_more xs x, l)) ∙ ap Some (get_or_append_left xs (x ∷ []) y k l ∙ get_or_from_slice_get xs k y y e)

pub numbered_last : {A : Type 0} (xs : List A) (x : A) → slice_get (xs ++ x ∷ []) (length xs) ≡ Some x
numbered_last xs x = slice_get-get_or (xs ++ x ∷ []) (length xs) x (omega (arith, one_more xs x)) ∙ ap Some (get_or-append_seam xs x [] x)

last_only : {A : Type 0} (xs : List A) (x : A) (k : ℕ) (y : A) → k ≡ length xs → slice_get (xs ++ x ∷ []) k ≡ Some y → x ≡ y
last_only {A} xs x k y i e =
    let P : ℕ → Type 0 = λ m. slice_get (xs ++ x ∷ []) m ≡ Some y in
    let h : Some x ≡ Some y = sym (numbered_last xs x) ∙ subst P i e in
    cc

pub numbered_cases : {A : Type 0} (xs : List A) (x : A) (k : ℕ) (y : A) → slice_get (xs ++ x ∷ []) k ≡ Some y → (slice_get xs k ≡ Some y) ⊎ ((k ≡ length xs) × (x ≡ y))
numbered_cases xs x k y e =
    elim (cases_lt k (length xs)) [
      | inl l ↦ inl (slice_get-get_or xs k y l ∙ ap Some (sym (get_or_append_left xs (x ∷ []) y k l) ∙ get_or_from_slice_get (xs ++ x ∷ []) k y y e))
      | inr l ↦
          let i : k ≡ length xs = omega (arith, l, slice_get_within (xs ++ x ∷ []) k y e, one_more xs x) in
          inr (i, last_only xs x k y i e)
    ]
