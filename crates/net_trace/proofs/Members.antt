-- What a list contains that is made of others.
use Rattle.std.proofs.Common.{◌≡◌, Bool, true, false, cond, List, [], ◌∷◌, ◌++◌, map, ◌⊎◌, inl, inr, refl, sym, ap, ◌∙◌, subst, arith}
use Rattle.std.specs.Prelude.{Contains, filter}
use Rattle.std.specs.List.{flat_map}
use Rattle.std.proofs.lemmas.Bool.{false≢true}
use Rattle.std.proofs.lemmas.List.{length-map, get_or-map}
use Rattle.std.proofs.lemmas.List.Elements.{Contains-append_left, Contains-append_right, Contains-append_cases}
use Rattle.plane_core.proofs.Members.{has_head, has_tail, has_cases, has_none}

module _ {X Y : Type 0} (f : X → Y) where
  pub Contains-map : (xs : List X) (x : X) → Contains xs x → Contains (map f xs) (f x)
  Contains-map xs x c =
      let e = length-map xs f in
      (c.0, omega (arith, e, c.1), get_or-map f xs c.0 x (f x) c.1 ∙ ap f c.2)

  pub Contains-map_cases : (xs : List X) (y : Y) → Contains (map f xs) y → (x : X) × Contains xs x × (f x ≡ y)
  Contains-map_cases [] y c = absurd (has_none y c)
  Contains-map_cases (x ∷ xs) y c = by (has_cases (f x) (map f xs) y c) (Contains-map_cases xs y)
    where
      by : (f x ≡ y) ⊎ Contains (map f xs) y → (Contains (map f xs) y → (z : X) × Contains xs z × (f z ≡ y)) → (z : X) × Contains (x ∷ xs) z × (f z ≡ y)
      by (inl e) rest = (x, has_head x xs, e)
      by (inr d) rest = let r = rest d in (r.0, has_tail x xs r.0 r.1, r.2)

module _ {X Y : Type 0} (f : X → List Y) where
  pub Contains-flat_map : (xs : List X) (x : X) (y : Y) → Contains xs x → Contains (f x) y → Contains (flat_map f xs) y
  Contains-flat_map [] x y c d = absurd (has_none x c)
  Contains-flat_map (z ∷ xs) x y c d = by (has_cases z xs x c) (λ k. Contains-flat_map xs x y k d)
    where
      by : (z ≡ x) ⊎ Contains xs x → (Contains xs x → Contains (flat_map f xs) y) → Contains (f z ++ flat_map f xs) y
      by (inl e) rest = Contains-append_left (f z) (flat_map f xs) y (subst (λ w. Contains (f w) y) (sym e) d)
      by (inr k) rest = Contains-append_right (f z) (flat_map f xs) y (rest k)

  pub Contains-flat_map_cases : (xs : List X) (y : Y) → Contains (flat_map f xs) y → (x : X) × Contains xs x × Contains (f x) y
  Contains-flat_map_cases [] y c = absurd (has_none y c)
  Contains-flat_map_cases (x ∷ xs) y c = by (Contains-append_cases (f x) (flat_map f xs) y c) (Contains-flat_map_cases xs y)
    where
      by : Contains (f x) y ⊎ Contains (flat_map f xs) y → (Contains (flat_map f xs) y → (z : X) × Contains xs z × Contains (f z) y) → (z : X) × Contains (x ∷ xs) z × Contains (f z) y
      by (inl d) rest = (x, has_head x xs, d)
      by (inr d) rest = let r = rest d in (r.0, has_tail x xs r.0 r.1, r.2)

module _ {X : Type 0} (p : X → Bool) where
  pub Contains-filter : (xs : List X) (y : X) → Contains xs y → p y ≡ true → Contains (filter p xs) y
  Contains-filter [] y c h = absurd (has_none y c)
  Contains-filter (x ∷ xs) y c h = by (p x) refl (has_cases x xs y c) (λ d. Contains-filter xs y d h)
    where
      by : (b : Bool) → p x ≡ b → (x ≡ y) ⊎ Contains xs y → (Contains xs y → Contains (filter p xs) y) → Contains (cond b (x ∷ filter p xs) (filter p xs)) y
      by true e (inl same) rest = subst (Contains (x ∷ filter p xs)) same (has_head x (filter p xs))
      by true e (inr d) rest = has_tail x (filter p xs) y (rest d)
      by false e (inl same) rest = absurd (false≢true (sym e ∙ ap p same ∙ h))
      by false e (inr d) rest = rest d
