-- What a search for the first item that is not as wanted finds.
use Rattle.std.specs.Prelude.{◌≡◌, ℕ, ◌<◌, List, Option, Some, None, slice_get}
use Rattle.plane_set.specs.Places.{EachAt}

-- the item of number n is not as wanted, and each one before it is
pub record IsFirst (A : Type 0) (IsWanted : ℕ → A → Type 0) (items : List A) (n : ℕ) : Type 0 where
  pub item : A
  pub numbered : slice_get items n ≡ Some item
  pub unwanted : ¬ IsWanted n item
  pub before : (m : ℕ) (x : A) → m < n → slice_get items m ≡ Some x → IsWanted m x

-- the number of the first item that is not as wanted, none where each one is
abbrev pub IsSearched : {A : Type 0} → (ℕ → A → Type 0) → List A → Option ℕ → Type 0
IsSearched {A} IsWanted items None = EachAt IsWanted items
IsSearched {A} IsWanted items (Some n) = IsFirst A IsWanted items n
