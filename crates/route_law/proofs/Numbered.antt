-- Items of a list by their numbers, and those of its first part.
use Rattle.std.proofs.Common.{◌≡◌, ℕ, ◌+◌, ◌<◌, ◌⊎◌, List, [], ◌∷◌, ◌++◌, Contains, Some, length, get_or, take, sym, ◌∙◌, ap, subst}
use Rattle.std.specs.Prelude.{slice_get}
use Rattle.std.proofs.lemmas.List.{take_more}
use Rattle.std.proofs.lemmas.List.Elements.{Contains-push, Contains-push_cases, Contains-append_left}
use Rattle.std.proofs.lemmas.Option.{slice_get_within, get_or_from_slice_get, slice_get-get_or}

pub numbered_listed : {A : Type 0} (xs : List A) (n : ℕ) (x : A) → slice_get xs n ≡ Some x → Contains xs x
numbered_listed xs n x e = (n, slice_get_within xs n x e, get_or_from_slice_get xs n x x e)

pub listed_numbered : {A : Type 0} (xs : List A) (x : A) → Contains xs x → (n : ℕ) × (slice_get xs n ≡ Some x)
listed_numbered xs x h = (h.0, slice_get-get_or xs h.0 x h.1 ∙ ap Some h.2)

-- the first items and one more
pub take_one_more : {A : Type 0} (xs : List A) (i : ℕ) (x : A) → i < length xs → x ≡ get_or xs i x → take (i + 1) xs ≡ take i xs ++ x ∷ []
take_one_more xs i x l e = take_more xs i x l ∙ ap (λ y. take i xs ++ y ∷ []) (sym e)

pub taken_before : {A : Type 0} (xs : List A) (i : ℕ) (x y : A) → i < length xs → x ≡ get_or xs i x → Contains (take i xs) y → Contains (take (i + 1) xs) y
taken_before {A} xs i x y l e h = let P : List A → Type 0 = λ ys. Contains ys y in subst P (sym (take_one_more xs i x l e)) (Contains-append_left (take i xs) (x ∷ []) y h)

pub taken_last : {A : Type 0} (xs : List A) (i : ℕ) (x : A) → i < length xs → x ≡ get_or xs i x → Contains (take (i + 1) xs) x
taken_last {A} xs i x l e = let P : List A → Type 0 = λ ys. Contains ys x in subst P (sym (take_one_more xs i x l e)) (Contains-push (take i xs) x)

pub taken_cases : {A : Type 0} (xs : List A) (i : ℕ) (x y : A) → i < length xs → x ≡ get_or xs i x → Contains (take (i + 1) xs) y → Contains (take i xs) y ⊎ (x ≡ y)
taken_cases {A} xs i x y l e h = let P : List A → Type 0 = λ ys. Contains ys y in Contains-push_cases (take i xs) x y (subst P (take_one_more xs i x l e) h)
