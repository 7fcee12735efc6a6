-- Which pieces touch, and which are joined by chains of touching. Pieces are known by their numbers in a
-- list, from 0.
use Rattle.std.specs.Prelude.{ℕ, ◌≡◌, ◌<◌, ◌≤◌, List, [], ◌∷◌, length, Contains, Some, slice_get}
use Rattle.geo_rect.specs.declared.ids.Spot.{Spot}
use Rattle.geo_rect.specs.declared.shapes.Point.{Point}
use Rattle.geo_rect.specs.Plane.{HasPoint}
use Rattle.net_trace.specs.declared.copper.Piece.{Piece}

-- the two areas are on one layer and have a common point
pub record SharePoint (s t : Spot) : Type 0 where
  pub same_layer : s.layer ≡ t.layer
  pub point : Point
  pub of_first : HasPoint s.area point
  pub of_second : HasPoint t.area point

-- on some layer both pieces have an area, and the two have a common point
pub record Touch (a b : Piece) : Type 0 where
  pub one : Spot
  pub other : Spot
  pub one_listed : Contains a.area one
  pub other_listed : Contains b.area other
  pub share : SharePoint one other

-- the pieces of these numbers touch
pub record AreTouching (pieces : List Piece) (i j : ℕ) : Type 0 where
  pub first : Piece
  pub second : Piece
  pub is_first : slice_get pieces i ≡ Some first
  pub is_second : slice_get pieces j ≡ Some second
  pub touch : Touch first second

-- the numbers lead on from i to j: each piece touches the one before it, the first of them piece number i,
-- and the last is piece number j
abbrev pub IsChain : List Piece → ℕ → List ℕ → ℕ → Type 0
IsChain pieces i [] j = i ≡ j
IsChain pieces i (k ∷ ks) j = AreTouching pieces i k × IsChain pieces k ks j

-- a chain of touching leads from piece number i to piece number j; each piece is joined to itself
pub record AreJoined (pieces : List Piece) (i j : ℕ) : Type 0 where
  pub known : i < length pieces
  pub numbers : List ℕ
  pub chain : IsChain pieces i numbers j

-- piece number n is joined to piece number i, and none of a lower number is
pub record IsLeastJoined (pieces : List Piece) (i n : ℕ) : Type 0 where
  pub joined : AreJoined pieces i n
  pub least : (m : ℕ) → AreJoined pieces i m → n ≤ m

-- for each piece the least number of a piece that is joined to it: what names its group
pub record AreGroupNumbers (pieces : List Piece) (numbers : List ℕ) : Type 0 where
  pub each : length numbers ≡ length pieces
  pub least : (i n : ℕ) → slice_get numbers i ≡ Some n → IsLeastJoined pieces i n
