-- Parts that are next to one another, and how far a flood over them has come. Parts are known by their numbers
-- in a list, from 0, and marks tell for each part whether it is reached.
use Rattle.std.specs.Prelude.{ℕ, ◌≡◌, ◌≤◌, ◌⊎◌, Bool, true, false, List, length, Contains, Some, slice_get, slice_index_or}
use Rattle.geo_rect.specs.declared.shapes.Point.{Point}
use Rattle.geo_rect.specs.declared.shapes.Rect.{Rect}
use Rattle.geo_rect.specs.Distance.{apart}
use Rattle.geo_rect.specs.Plane.{HasPoint}

-- some point of the one is at most one step from some point of the other
pub record AreNext (a b : Rect) : Type 0 where
  pub first : Point
  pub second : Point
  pub in_first : HasPoint a first
  pub in_second : HasPoint b second
  pub near : apart first second ≤ 1

-- the parts of these numbers are next to one another
pub record AreNeighbours (parts : List Rect) (i j : ℕ) : Type 0 where
  pub one : Rect
  pub other : Rect
  pub is_one : slice_get parts i ≡ Some one
  pub is_other : slice_get parts j ≡ Some other
  pub next : AreNext one other

-- part number i is marked
abbrev pub IsMarked : List Bool → ℕ → Type 0
IsMarked marks i = slice_index_or marks i false ≡ true

-- steps from part to part, each next to the one before, lead to part number i from a seed
pub data IsFlooded (parts : List Rect) (seeds : List Bool) : ℕ → Type 0 where
  begins : (i : ℕ) → IsMarked seeds i → IsFlooded parts seeds i
  goes_on : (i j : ℕ) → IsFlooded parts seeds i → AreNeighbours parts i j → IsFlooded parts seeds j

-- each part that is marked is flooded from the seeds
abbrev pub AreFlooded : List Rect → List Bool → List Bool → Type 0
AreFlooded parts seeds marks = (i : ℕ) → IsMarked marks i → IsFlooded parts seeds i

-- exactly the parts that are flooded from the seeds are marked
pub record AreAllFlooded (parts : List Rect) (seeds marks : List Bool) : Type 0 where
  pub each : length marks ≡ length parts
  pub sound : AreFlooded parts seeds marks
  pub all : (i : ℕ) → IsFlooded parts seeds i → IsMarked marks i

-- the front lists exactly the parts that are marked
pub record IsFrontOf (marks : List Bool) (front : List ℕ) : Type 0 where
  pub marked : (i : ℕ) → Contains front i → IsMarked marks i
  pub all : (i : ℕ) → IsMarked marks i → Contains front i

-- the part that is gone on from has not been tried against those from number `next` on
pub record IsUntried (from next i j : ℕ) : Type 0 where
  pub source : i ≡ from
  pub later : next ≤ j

-- nothing is left to try but from the front
abbrev pub IsNoPair : ℕ → ℕ → Type 0
IsNoPair i j = ⊥

-- the front lists parts that are marked, and what is next to a marked part is marked too, but for pairs that are
-- left to try
pub record IsFlood (parts : List Rect) (left : ℕ → ℕ → Type 0) (marks : List Bool) (front : List ℕ) : Type 0 where
  pub each : length marks ≡ length parts
  pub front_is : (i : ℕ) → Contains front i → IsMarked marks i
  pub spread : (i j : ℕ) → IsMarked marks i → AreNeighbours parts i j → IsMarked marks j ⊎ (Contains front i ⊎ left i j)

-- what was marked stays so
abbrev pub StayMarked : List Bool → List Bool → Type 0
StayMarked old new = (i : ℕ) → IsMarked old i → IsMarked new i

-- what is flooded from the seeds is all that is marked, if it was before
abbrev pub StayFlooded : List Rect → List Bool → List Bool → Type 0
StayFlooded parts old new = (seeds : List Bool) → AreFlooded parts seeds old → AreFlooded parts seeds new

-- 1 for a part that is not marked
abbrev pub blank : Bool → ℕ
blank true = 0
blank false = 1
