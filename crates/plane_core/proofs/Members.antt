-- What a list contains, by its first item and the rest.
use Rattle.std.proofs.Common.{zero, suc, ◌<◌, ◌≡◌, refl, List, [], ◌∷◌, ◌⊎◌, inl, inr, Contains, arith}

pub has_head : {A : Type 0} (x : A) (xs : List A) → Contains (x ∷ xs) x
has_head x xs = (0, omega arith, refl)

pub has_tail : {A : Type 0} (x : A) (xs : List A) (y : A) → Contains xs y → Contains (x ∷ xs) y
has_tail x xs y (k, h, e) = (suc k, omega arith, e)

pub has_cases : {A : Type 0} (x : A) (xs : List A) (y : A) → Contains (x ∷ xs) y → (x ≡ y) ⊎ Contains xs y
has_cases x xs y (zero, h, e) = inl e
has_cases x xs y (suc k, h, e) = inr (k, omega arith, e)

pub has_none : {A : Type 0} (y : A) → Contains [] y → ⊥
has_none {A} y (k, h, e) = let h' : k < 0 = h in omega arith
