-- What holds of each item of a list at its place.
use Rattle.std.specs.Prelude.{◌≡◌, ℕ, List, Some, slice_get}

-- each item of the list is as wanted at its place, the first at 0
abbrev pub EachAt : {A : Type 0} → (ℕ → A → Type 0) → List A → Type 0
EachAt {A} IsWanted items = (n : ℕ) (x : A) → slice_get items n ≡ Some x → IsWanted n x

-- each item of the second list is as wanted beside the item of the first list at its place
abbrev pub EachPair : {A B : Type 0} → (ℕ → A → B → Type 0) → List A → List B → Type 0
EachPair {A} {B} IsWanted xs ys = (n : ℕ) (x : A) (y : B) → slice_get xs n ≡ Some x → slice_get ys n ≡ Some y → IsWanted n x y
