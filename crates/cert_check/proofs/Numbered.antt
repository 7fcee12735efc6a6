-- Items of a list by their numbers.
use Rattle.std.proofs.Common.{◌≡◌, ℕ, ◌+◌, ◌<◌, ◌≤◌, List, Contains, All, Some, length, get_or, take, sym, ◌∙◌, ap, subst, inl, inr, arith}
use Rattle.std.specs.Prelude.{slice_get}
use Rattle.std.proofs.lemmas.Bool.{cases_lt}
use Rattle.std.proofs.lemmas.List.{take_all}
use Rattle.std.proofs.lemmas.List.Elements.{All-more, All-contains}
use Rattle.std.proofs.lemmas.Option.{slice_get_within, slice_get-get_or}
use Rattle.plane_set.specs.Places.{EachAt}
use Rattle.cert_check.specs.Searches.{IsFirst}

pub one_numbered : {A : Type 0} (xs : List A) (n : ℕ) (x y : A) → slice_get xs n ≡ Some x → slice_get xs n ≡ Some y → x ≡ y
one_numbered xs n x y e f = let h : Some x ≡ Some y = sym e ∙ f in cc

-- an item that was read at a number has this number
pub read_numbered : {A : Type 0} (xs : List A) (n : ℕ) (x : A) → n < length xs → x ≡ get_or xs n x → slice_get xs n ≡ Some x
read_numbered xs n x l e = slice_get-get_or xs n x l ∙ ap Some (sym e)

-- one more item that was read, and the end of the list
pub all_read : {A : Type 0} (P : A → Type 0) (xs : List A) (i : ℕ) (x : A) → i < length xs → x ≡ get_or xs i x → All P (take i xs) → P x → All P (take (i + 1) xs)
all_read P xs i x l e h p = All-more P xs i x l h (subst P e p)

pub all_to_end : {A : Type 0} (P : A → Type 0) (xs : List A) (i : ℕ) → length xs ≤ i → All P (take i xs) → All P xs
all_to_end {A} P xs i l h = let Q : List A → Type 0 = λ ys. All P ys in subst Q (take_all i xs l) h

pub read_listed : {A : Type 0} (xs : List A) (i : ℕ) (x : A) → i < length xs → x ≡ get_or xs i x → Contains xs x
read_listed xs i x l e = (i, l, sym e)

pub none_listed : {A : Type 0} (P : A → Type 0) (xs : List A) (x : A) → All (λ y. P y → ⊥) xs → Contains xs x → P x → ⊥
none_listed P xs x h c p = All-contains (λ y. P y → ⊥) xs x h c p

-- each of the first items of the list is as wanted at its place
abbrev pub EachBefore : {A : Type 0} → (ℕ → A → Type 0) → List A → ℕ → Type 0
EachBefore {A} IsWanted items limit = (m : ℕ) (x : A) → m < limit → slice_get items m ≡ Some x → IsWanted m x

each_at : {A : Type 0} (IsWanted : ℕ → A → Type 0) (items : List A) (n : ℕ) (x : A) → slice_get items n ≡ Some x → IsWanted n x → (m : ℕ) (y : A) → m ≡ n → slice_get items m ≡ Some y → IsWanted m y
each_at {A} IsWanted items n x e w m y i f =
    let P : ℕ → Type 0 = λ k. slice_get items k ≡ Some y in
    let Q : ℕ → Type 0 = λ k. IsWanted k y in
    let R : A → Type 0 = λ z. IsWanted n z in
    subst Q (sym i) (subst R (one_numbered items n x y e (subst P i f)) w)

-- one more item is as wanted
pub each_more : {A : Type 0} (IsWanted : ℕ → A → Type 0) (items : List A) (n : ℕ) (x : A) → n < length items → x ≡ get_or items n x → EachBefore IsWanted items n → IsWanted n x → EachBefore IsWanted items (n + 1)
each_more IsWanted items n x l e before w = λ m y h f.
    elim (cases_lt m n) [
      | inl i ↦ before m y i f
      | inr i ↦ each_at IsWanted items n x (read_numbered items n x l e) w m y (omega (arith, h, i)) f
    ]

pub each_to_end : {A : Type 0} (IsWanted : ℕ → A → Type 0) (items : List A) (n : ℕ) → length items ≤ n → EachBefore IsWanted items n → EachAt IsWanted items
each_to_end IsWanted items n l before = λ m x f. before m x (omega (arith, l, slice_get_within items m x f)) f

pub first_found : {A : Type 0} (IsWanted : ℕ → A → Type 0) (items : List A) (n : ℕ) (x : A) → n < length items → x ≡ get_or items n x → EachBefore IsWanted items n → (IsWanted n x → ⊥) → IsFirst A IsWanted items n
first_found IsWanted items n x l e before w = record { item = x; numbered = read_numbered items n x l e; unwanted = w; before = before }
