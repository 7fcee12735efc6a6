-- How lists that have exactly what is so grow, and that two counts of the same are one.
use Rattle.std.proofs.Common.{◌≡◌, ℕ, ◌+◌, ◌<◌, ◌≤◌, ◌≢◌, List, [], ◌∷◌, ◌++◌, length, get_or, eqb, ap, sym, ◌∙◌, subst, refl, ◌⊎◌, inl, inr, true, arith}
use Rattle.std.specs.Prelude.{Contains}
use Rattle.std.specs.List.{list_any}
use Rattle.std.proofs.lemmas.Bool.{cases_eq}
use Rattle.std.proofs.lemmas.Bool.Decides.{nat_tests, Decides-eqb}
use Rattle.std.proofs.lemmas.Cmp.{nat_eq_equiv}
use Rattle.std.proofs.lemmas.List.{length_push}
use Rattle.std.proofs.lemmas.List.Elements.{Contains-append_left, Contains-get_or, Contains-push, Contains-push_cases}
use Rattle.std.proofs.lemmas.List.Folds.{Any-from_list_any}
use Rattle.std.proofs.lemmas.List.Quantifiers.{all_pairs_push}
use Rattle.std.proofs.lemmas.Map.Made.{IsDistinct-from_AllPairs, length-le_from_is_member}
use Rattle.std.proofs.lemmas.Map.Views.{list_any-from_Contains}
use Rattle.net_trace.specs.Report.{IsListOf, IsCount, Differ}
use Rattle.net_trace.specs.Listing.{IsSoBelow}

pub Contains-nil : {X : Type 0} (x : X) → Contains [] x → ⊥
Contains-nil x h = omega (arith, h.1)

module _ {X : Type 0} (R : X → X → Type 0) where
  -- what is so by other words is in the same list
  pub list_same : (P Q : X → Type 0) (xs : List X) → ((x : X) → P x → Q x) → ((x : X) → Q x → P x) → IsListOf R P xs → IsListOf R Q xs
  list_same P Q xs on back h = record { ordered = h.ordered; each = λ x c. on x (h.each x c); all = λ x q. h.all x (back x q) }

  -- one thing more is so, after all others
  pub list_push : (P Q : X → Type 0) (xs : List X) (y : X) → ((x : X) → P x → R x y) → Q y → ((x : X) → P x → Q x) → ((x : X) → Q x → P x ⊎ (y ≡ x)) → IsListOf R P xs → IsListOf R Q (xs ++ y ∷ [])
  list_push P Q xs y after here on back h = record {
    ordered = all_pairs_push R xs y h.ordered (λ k d l. after (get_or xs k d) (h.each (get_or xs k d) (Contains-get_or xs k d l)));
    each = λ x c. by x (Contains-push_cases xs y x c);
    all = λ x q. back_in x (back x q);
  }
    where
      by : (x : X) → Contains xs x ⊎ (y ≡ x) → Q x
      by x (inl c) = on x (h.each x c)
      by x (inr e) = subst Q e here

      back_in : (x : X) → P x ⊎ (y ≡ x) → Contains (xs ++ y ∷ []) x
      back_in x (inl p) = Contains-append_left xs (y ∷ []) x (h.all x p)
      back_in x (inr e) = subst (Contains (xs ++ y ∷ [])) e (Contains-push xs y)

  -- the same, one key after another
  module _ (key : X → ℕ) (P : X → Type 0) where
    below_more : (n : ℕ) (x : X) → IsSoBelow key P n x → IsSoBelow key P (n + 1) x
    below_more n x h = (omega (arith, h.0), h.1)

    below_back : (n : ℕ) (x : X) → IsSoBelow key P (n + 1) x → IsSoBelow key P n x ⊎ (key x ≡ n)
    below_back n x h = by (cases_eq (key x) n)
      where
        by : (key x ≡ n) ⊎ (key x ≢ n) → IsSoBelow key P n x ⊎ (key x ≡ n)
        by (inl e) = inr e
        by (inr d) = inl (omega (arith, h.0, d), h.1)

    -- nothing of the next key is so
    pub below_skip : (n : ℕ) (xs : List X) → ((x : X) → key x ≡ n → P x → ⊥) → IsListOf R (IsSoBelow key P n) xs → IsListOf R (IsSoBelow key P (n + 1)) xs
    below_skip n xs none h = list_same (IsSoBelow key P n) (IsSoBelow key P (n + 1)) xs (below_more n) (λ x q. back x q (below_back n x q)) h
      where
        back : (x : X) → IsSoBelow key P (n + 1) x → IsSoBelow key P n x ⊎ (key x ≡ n) → IsSoBelow key P n x
        back x q (inl p) = p
        back x q (inr e) = absurd (none x e q.1)

    -- one thing of the next key is so
    pub below_push : (n : ℕ) (xs : List X) (y : X) → ((x : X) → key x < key y → R x y) → key y ≡ n → P y → ((x : X) → key x ≡ n → P x → y ≡ x) → IsListOf R (IsSoBelow key P n) xs → IsListOf R (IsSoBelow key P (n + 1)) (xs ++ y ∷ [])
    below_push n xs y after e p one h =
        list_push (IsSoBelow key P n) (IsSoBelow key P (n + 1)) xs y (λ x q. after x (omega (arith, q.0, e))) (omega (arith, e), p) (below_more n) (λ x q. back x q (below_back n x q)) h
      where
        back : (x : X) → IsSoBelow key P (n + 1) x → IsSoBelow key P n x ⊎ (key x ≡ n) → IsSoBelow key P n x ⊎ (y ≡ x)
        back x q (inl p) = inl p
        back x q (inr e) = inr (one x e q.1)

    -- no key is left
    pub below_all : (n : ℕ) (xs : List X) → ((x : X) → P x → key x < n) → IsListOf R (IsSoBelow key P n) xs → IsListOf R P xs
    below_all n xs l h = list_same (IsSoBelow key P n) P xs (λ x q. q.1) (λ x p. (l x p, p)) h

pub count_skip : (P : ℕ → Type 0) (n c : ℕ) → (P n → ⊥) → IsCount (IsSoBelow (λ i. i) P n) c → IsCount (IsSoBelow (λ i. i) P (n + 1)) c
count_skip P n c none h = record { numbers = h.numbers; lists = below_skip Differ (λ i. i) P n h.numbers (λ x e p. none (subst P e p)) h.lists; many = h.many }

pub count_next : (P : ℕ → Type 0) (n c : ℕ) → P n → IsCount (IsSoBelow (λ i. i) P n) c → IsCount (IsSoBelow (λ i. i) P (n + 1)) (c + 1)
count_next P n c here h = record {
  numbers = h.numbers ++ n ∷ [];
  lists = below_push Differ (λ i. i) P n h.numbers n (λ x l e. omega (arith, l, e)) refl here (λ x e p. sym e) h.lists;
  many = length_push h.numbers n ∙ ap (λ m. m + 1) h.many;
}

pub count_all : (P : ℕ → Type 0) (n c : ℕ) → ((i : ℕ) → P i → i < n) → IsCount (IsSoBelow (λ i. i) P n) c → IsCount P c
count_all P n c l h = record { numbers = h.numbers; lists = below_all Differ (λ i. i) P n h.numbers l h.lists; many = h.many }

pub count_same : (P Q : ℕ → Type 0) (c : ℕ) → ((i : ℕ) → P i → Q i) → ((i : ℕ) → Q i → P i) → IsCount P c → IsCount Q c
count_same P Q c on back h = record { numbers = h.numbers; lists = list_same Differ P Q h.numbers on back h.lists; many = h.many }

Contains-from_list_any : (xs : List ℕ) (q : ℕ) → list_any (eqb q) xs ≡ true → Contains xs q
Contains-from_list_any xs q h =
    let a = Any-from_list_any (eqb q) xs h in
    let e : q ≡ a.1 = grind (arith, nat_tests, a.4) in
    subst (Contains xs) (sym e) (a.0, a.2, a.3)

-- what is so is in a list that is no shorter
pub no_more_than : (P : ℕ → Type 0) (xs ys : List ℕ) → IsListOf Differ P xs → ((q : ℕ) → P q → Contains ys q) → length xs ≤ length ys
no_more_than P xs ys h all =
    length-le_from_is_member nat_eq_equiv xs ys (IsDistinct-from_AllPairs Decides-eqb xs h.ordered)
    (λ q s. list_any-from_Contains nat_eq_equiv q ys (all q (h.each q (Contains-from_list_any xs q s))))

-- there is one number of what is so
pub count_one : (P : ℕ → Type 0) (m n : ℕ) → IsCount P m → IsCount P n → m ≡ n
count_one P m n h k =
    let a = no_more_than P h.numbers k.numbers h.lists k.lists.all in
    let b = no_more_than P k.numbers h.numbers k.lists h.lists.all in
    omega (arith, h.many, k.many)
