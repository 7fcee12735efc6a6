-- Wires that go on in the line of the wire before them.
use Rattle.std.specs.Prelude.{ℤ, ◌≤ℤ◌, ◌≡◌, ◌⊎◌, List, [], ◌∷◌, ⊤}
use Rattle.geo_rect.specs.declared.ids.Node.{Node}
use Rattle.board_model.specs.declared.made.Leg.{Leg}
use Rattle.board_model.specs.declared.made.Leg.TheVariants.{Wire, Via}

-- y is one of the numbers from x to z, whichever of the two is less
pub data IsPassed (x y z : ℤ) : Type 0 where
  rising : x ≤ℤ y → y ≤ℤ z → IsPassed x y z
  falling : z ≤ℤ y → y ≤ℤ x → IsPassed x y z

-- the three nodes are in one row, v between the other two or at one of them
pub record RunsAcross (u v w : Node) : Type 0 where
  pub first : u.y ≡ v.y
  pub second : v.y ≡ w.y
  pub passed : IsPassed u.x v.x w.x

-- the three nodes are in one column, v between the other two or at one of them
pub record RunsUp (u v w : Node) : Type 0 where
  pub first : u.x ≡ v.x
  pub second : v.x ≡ w.x
  pub passed : IsPassed u.y v.y w.y

-- a wire from v to w goes on in the direction of one from u to v
abbrev pub GoesOn : Node → Node → Node → Type 0
GoesOn u v w = RunsAcross u v w ⊎ RunsUp u v w

-- the first of the legs from v is a wire that goes on in the direction of one from u to v
abbrev pub GoesStraight : Node → Node → List Leg → Type 0
GoesStraight u v [] = ⊥
GoesStraight u v (Wire w ∷ legs) = GoesOn u v w
GoesStraight u v (Via k w ∷ legs) = ⊥

-- no wire of the legs from u goes on in the direction of a wire right before it
abbrev pub HasOnlyTurns : Node → List Leg → Type 0
HasOnlyTurns u [] = ⊤
HasOnlyTurns u (Wire v ∷ legs) = (GoesStraight u v legs → ⊥) × HasOnlyTurns v legs
HasOnlyTurns u (Via k v ∷ legs) = HasOnlyTurns v legs
