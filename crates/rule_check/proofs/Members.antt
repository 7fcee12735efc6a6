-- What a list contains that is made of others.
use Rattle.std.proofs.Common.{◌≡◌, ℕ, zero, suc, Bool, true, false, cond, List, [], ◌∷◌, map, filter, slice_get, Some, Contains, ◌⊎◌, inl, inr, refl, sym, ap, ◌∙◌, subst, arith}
use Rattle.std.proofs.lemmas.Bool.{false≢true}
use Rattle.std.proofs.lemmas.List.Elements.{Contains-append_right}

module _ {X : Type 0} where
  -- the first of a list, or one of the rest
  pub Contains-cons_cases : (x : X) (xs : List X) (y : X) → Contains (x ∷ xs) y → (x ≡ y) ⊎ Contains xs y
  Contains-cons_cases x xs y (zero, lt, e) = inl e
  Contains-cons_cases x xs y (suc k, lt, e) = inr (k, omega arith, e)

  pub Contains-head : (x : X) (xs : List X) (y : X) → x ≡ y → Contains (x ∷ xs) y
  Contains-head x xs y e = (0, omega arith, e)

  pub Contains-tail : (x : X) (xs : List X) (y : X) → Contains xs y → Contains (x ∷ xs) y
  Contains-tail x xs y c = Contains-append_right (x ∷ []) xs y c

  pub Contains-nil : (y : X) → Contains [] y → ⊥
  Contains-nil y (k, lt, e) = omega arith

  -- between a place and a list that contains its item
  pub Contains-from_place : (xs : List X) (k : ℕ) (x : X) → slice_get xs k ≡ Some x → Contains xs x
  Contains-from_place [] k x e = absurd (cc)
  Contains-from_place (y ∷ ys) zero x e = Contains-head y ys x (cc)
  Contains-from_place (y ∷ ys) (suc k) x e = Contains-tail y ys x (Contains-from_place ys k x e)

  pub place_from_Contains : (xs : List X) (x : X) → Contains xs x → (k : ℕ) × (slice_get xs k ≡ Some x)
  place_from_Contains [] x c = absurd (Contains-nil x c)
  place_from_Contains (y ∷ ys) x c = by (Contains-cons_cases y ys x c) (place_from_Contains ys x)
    where
      by : (y ≡ x) ⊎ Contains ys x → (Contains ys x → (k : ℕ) × (slice_get ys k ≡ Some x)) → (k : ℕ) × (slice_get (y ∷ ys) k ≡ Some x)
      by (inl e) rest = (0, ap Some e)
      by (inr c) rest = let r = rest c in (suc r.0, r.1)

module _ {X : Type 0} (p : X → Bool) where
  -- what a filter keeps stands in the list and passes
  pub Contains-filter_cases : (xs : List X) (y : X) → Contains (filter p xs) y → Contains xs y × (p y ≡ true)
  Contains-filter_cases [] y c = absurd (Contains-nil y c)
  Contains-filter_cases (x ∷ xs) y c = by (p x) refl c (Contains-filter_cases xs y)
    where
      by : (b : Bool) → p x ≡ b → Contains (cond b (x ∷ filter p xs) (filter p xs)) y → (Contains (filter p xs) y → Contains xs y × (p y ≡ true)) → Contains (x ∷ xs) y × (p y ≡ true)
      by true e c rest =
          elim (Contains-cons_cases x (filter p xs) y c) [ inl same ↦ (Contains-head x xs y same, subst (λ z. p z ≡ true) same e) | inr d ↦ (Contains-tail x xs y (rest d).0, (rest d).1) ]
      by false e c rest = (Contains-tail x xs y (rest c).0, (rest c).1)

  pub Contains-filter : (xs : List X) (y : X) → Contains xs y → p y ≡ true → Contains (filter p xs) y
  Contains-filter [] y c h = absurd (Contains-nil y c)
  Contains-filter (x ∷ xs) y c h = by (p x) refl (Contains-cons_cases x xs y c) (λ d. Contains-filter xs y d h)
    where
      by : (b : Bool) → p x ≡ b → (x ≡ y) ⊎ Contains xs y → (Contains xs y → Contains (filter p xs) y) → Contains (cond b (x ∷ filter p xs) (filter p xs)) y
      by true e (inl same) rest = Contains-head x (filter p xs) y same
      by true e (inr d) rest = Contains-tail x (filter p xs) y (rest d)
      by false e (inl same) rest = absurd (false≢true (sym e ∙ ap p same ∙ h))
      by false e (inr d) rest = rest d

module _ {X Y : Type 0} (f : X → Y) where
  pub Contains-map_cases : (xs : List X) (y : Y) → Contains (map f xs) y → (x : X) × Contains xs x × (f x ≡ y)
  Contains-map_cases [] y c = absurd (Contains-nil y c)
  Contains-map_cases (x ∷ xs) y c = by (Contains-cons_cases (f x) (map f xs) y c) (Contains-map_cases xs y)
    where
      by : (f x ≡ y) ⊎ Contains (map f xs) y → (Contains (map f xs) y → (z : X) × Contains xs z × (f z ≡ y)) → (z : X) × Contains (x ∷ xs) z × (f z ≡ y)
      by (inl e) rest = (x, Contains-head x xs x refl, e)
      by (inr d) rest = let r = rest d in (r.0, Contains-tail x xs r.0 r.1, r.2)

  pub Contains-map : (xs : List X) (x : X) → Contains xs x → Contains (map f xs) (f x)
  Contains-map [] x c = absurd (Contains-nil x c)
  Contains-map (z ∷ xs) x c = by (Contains-cons_cases z xs x c) (Contains-map xs x)
    where
      by : (z ≡ x) ⊎ Contains xs x → (Contains xs x → Contains (map f xs) (f x)) → Contains (f z ∷ map f xs) (f x)
      by (inl e) rest = Contains-head (f z) (map f xs) (f x) (ap f e)
      by (inr d) rest = Contains-tail (f z) (map f xs) (f x) (rest d)
