-- How far a flood over pieces has come. It knows the groups of some pieces, and the front lists those from
-- which it has still to go on.
use Rattle.std.specs.Prelude.{ℕ, ◌≡◌, ◌≤◌, ◌⊎◌, List, length, Contains, Option, Some, None, slice_index_or}
use Rattle.net_trace.specs.declared.copper.Piece.{Piece}
use Rattle.net_trace.specs.Touching.{AreTouching, IsLeastJoined}

-- the group of piece number i, if it is known
abbrev pub group_at : List (Option ℕ) → ℕ → Option ℕ
group_at groups i = slice_index_or groups i None

-- the group of piece number i is known
abbrev pub IsReached : List (Option ℕ) → ℕ → Type 0
IsReached groups i = (g : ℕ) × (group_at groups i ≡ Some g)

-- the piece that is gone on from has not been tried against those from number `next` on
pub record IsUntried (from next i j : ℕ) : Type 0 where
  pub source : i ≡ from
  pub later : next ≤ j

-- nothing is left to try but from the front
abbrev pub IsNoPair : ℕ → ℕ → Type 0
IsNoPair i j = ⊥

-- each group that is known is right, the front is of this group, and what touches a piece whose group is
-- known is known too, but for pairs that are left to try
pub record IsFlood (pieces : List Piece) (group : ℕ) (left : ℕ → ℕ → Type 0) (groups : List (Option ℕ)) (front : List ℕ) : Type 0 where
  pub each : length groups ≡ length pieces
  pub right : (i g : ℕ) → group_at groups i ≡ Some g → IsLeastJoined pieces i g
  pub front_is : (i : ℕ) → Contains front i → group_at groups i ≡ Some group
  pub spread : (i j : ℕ) → IsReached groups i → AreTouching pieces i j → IsReached groups j ⊎ (Contains front i ⊎ left i j)

-- whose group is known stays so
abbrev pub StayReached : List (Option ℕ) → List (Option ℕ) → Type 0
StayReached old new = (i : ℕ) → IsReached old i → IsReached new i

-- 1 for a piece whose group is not known
abbrev pub blank : Option ℕ → ℕ
blank None = 1
blank (Some g) = 0
