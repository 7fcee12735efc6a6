-- A table that finds names by their bytes, seen as the list of the names.
use Rattle.std.proofs.Common.{◌≡◌, ◌≢◌, ℕ, ◌+◌, ◌<◌, Bool, true, false, not, cond, ◌||◌, List, [], ◌∷◌, ◌++◌, length, get_or, map, take, position, slice_get, Some, Contains, Decides, if◌then◌else◌, ap, sym, subst, refl, ◌∙◌, arith}
use Rattle.std.specs.Prelude.{AllPairs}
use Rattle.std.specs.List.{list_any, prefix_len}
use Rattle.std.specs.Str.{bytes_eq}
use Rattle.std.proofs.lemmas.Bool.{false≢true}
use Rattle.std.proofs.lemmas.Bool.Decides.{Decides-like, Decides-by_or}
use Rattle.std.proofs.lemmas.List.{length-map, length-take, get_or-take, take_more, map_push}
use Rattle.std.proofs.lemmas.List.Elements.{Decides-contains}
use Rattle.std.proofs.lemmas.List.Quantifiers.{position-Some}
use Rattle.std.proofs.lemmas.Option.{slice_get-get_or}
use Rattle.std.proofs.lemmas.Slice.Eq.{bytes_eq-Decides}

-- whether a name is among names
Decides-has_name : (q : List ℕ) (names : List (List ℕ)) → Decides (list_any (bytes_eq q) names) (Contains names q)
Decides-has_name q names =
    Decides-contains names q _
    (Decides-by_or (bytes_eq q) (λ y. y ≡ q) (list_any (bytes_eq q)) (λ y. Decides-like (bytes_eq q y) (λ e. sym e) (λ e. sym e) (bytes_eq-Decides q y)) refl (λ _ _. refl) names)

module _ {K : Type 0} (f : K → List ℕ) (p : List ℕ → Bool) where
  list_any-map : (ks : List K) → list_any p (map f ks) ≡ list_any (λ k. p (f k)) ks
  list_any-map [] = refl
  list_any-map (k ∷ ks) = ap (λ b. p (f k) || b) (list_any-map ks)

  prefix_len-map : (ks : List K) → prefix_len (λ x. not (p x)) (map f ks) ≡ prefix_len (λ k. not (p (f k))) ks
  prefix_len-map [] = refl
  prefix_len-map (k ∷ ks) = ap (λ n. cond (not (p (f k))) (1 + n) 0) (prefix_len-map ks)

  position-map : (ks : List K) → position p (map f ks) ≡ position (λ k. p (f k)) ks
  position-map ks = simp (prefix_len-map, length-map)

module _ {K : Type 0} (f : K → List ℕ) (ks : List K) (q : List ℕ) where
  -- a place that a look-up gives has the name
  pub found_at : (i : ℕ) → position (λ k. bytes_eq q (f k)) ks ≡ Some i → slice_get (map f ks) i ≡ Some q
  found_at i e =
      let at = position-Some (bytes_eq q) (map f ks) i [] (position-map f (bytes_eq q) ks ∙ e) in
      slice_get-get_or (map f ks) i [] at.0 ∙ ap Some (sym ((bytes_eq-Decides q (get_or (map f ks) i [])).0 at.1))

  -- a name that no look-up finds is not there
  pub not_found : list_any (λ k. bytes_eq q (f k)) ks ≡ false → Contains (map f ks) q → ⊥
  not_found none c = false≢true (sym none ∙ sym (list_any-map f (bytes_eq q) ks) ∙ (Decides-has_name q (map f ks)).1 c)

  not_there : (Contains (map f ks) q → ⊥) → list_any (λ k. bytes_eq q (f k)) ks ≡ false
  not_there absent = by (list_any (λ k. bytes_eq q (f k)) ks) (λ e. absent ((Decides-has_name q (map f ks)).0 (list_any-map f (bytes_eq q) ks ∙ e)))
    where
      by : (b : Bool) → (b ≡ true → ⊥) → b ≡ false
      by true h = absurd (h refl)
      by false h = refl

-- a name does not stand among those before it, where no two are alike
new_name : (names : List (List ℕ)) (i : ℕ) → AllPairs (λ a b. a ≢ b) names → i < length names → (x : List ℕ) → x ≡ get_or names i x → Contains (take i names) x → ⊥
new_name names i apart lt x e c =
    let k : c.0 < i = omega (arith, c.1, length-take i names) in
    apart c.0 i x k lt (sym (get_or-take i names c.0 x k) ∙ c.2 ∙ e)

-- one more name goes last in the table
pub name_added : {K : Type 0} (f : K → List ℕ) (ks new : List K) (k : K) (names : List (List ℕ)) (i : ℕ) (x : List ℕ) → AllPairs (λ a b. a ≢ b) names → i < length names → x ≡ get_or names i x → f k ≡ x → map f ks ≡ take i names → new ≡ (if list_any (λ y. bytes_eq (f k) (f y)) ks then ks else ks ++ k ∷ []) → map f new ≡ take (i + 1) names
name_added f ks new k names i x apart lt e same so_far is =
    let absent : Contains (map f ks) (f k) → ⊥ = λ c. new_name names i apart lt x e (subst (λ ns. Contains ns x) so_far (subst (Contains (map f ks)) same c)) in
    let pushed : new ≡ ks ++ k ∷ [] = is ∙ ap (λ b. if b then ks else ks ++ k ∷ []) (not_there f ks (f k) absent) in
    ap (map f) pushed ∙ map_push f ks k ∙ ap (λ ns. ns ++ f k ∷ []) so_far ∙ ap (λ y. take i names ++ y ∷ []) (same ∙ e) ∙ sym (take_more names i x lt)
