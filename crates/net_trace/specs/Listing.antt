-- How far a report has come.
use Rattle.std.specs.Prelude.{ℕ, ◌≡◌, ◌<◌, Bool, true, false, List, length, Contains, Some, slice_get, slice_index_or}
use Rattle.geo_rect.specs.declared.ids.NetId.{NetId}
use Rattle.net_trace.specs.declared.copper.Piece.{Piece}
use Rattle.net_trace.specs.declared.traced.Group.{Group}
use Rattle.net_trace.specs.declared.traced.OpenNet.{OpenNet}
use Rattle.net_trace.specs.declared.traced.Short.{Short}
use Rattle.net_trace.specs.Report.{HasPiece, IsShort, IsEarlierPair}

-- it is so, and its key is below the bound
abbrev pub IsSoBelow : {X : Type 0} → (X → ℕ) → (X → Type 0) → ℕ → X → Type 0
IsSoBelow key IsSo bound x = (key x < bound) × IsSo x

-- the group of piece number i as it is listed
abbrev pub IsListed : List ℕ → ℕ → ℕ → Type 0
IsListed numbers i f = slice_get numbers i ≡ Some f

-- groups are told apart by their first pieces
abbrev pub group_number : Group → ℕ
group_number g = g.first

-- open nets are told apart by their numbers
abbrev pub net_number : OpenNet → ℕ
net_number o = o.net.0

-- two nets of these numbers
abbrev pub pair_of : ℕ → ℕ → Short
pair_of a b = record { a = record { 0 = a }; b = record { 0 = b } }

-- each piece has a number in the list, and is one of so many nets
pub record AreWithin (pieces : List Piece) (numbers : List ℕ) (nets : ℕ) : Type 0 where
  pub each : length numbers ≡ length pieces
  pub known_net : (i : ℕ) (p : Piece) → slice_get pieces i ≡ Some p → p.net.0 < nets

-- one of the groups that are held has one of the first so many pieces, and that is one of the net
pub record IsMet (count : ℕ) (pieces : List Piece) (In : ℕ → ℕ → Type 0) (held : List ℕ) (n : NetId) : Type 0 where
  pub group : ℕ
  pub is_held : Contains held group
  pub has : HasPiece count pieces In n group

-- of so many nets, those that are met are known
pub record AreMet (count : ℕ) (pieces : List Piece) (In : ℕ → ℕ → Type 0) (held : List ℕ) (nets : ℕ) (met : List Bool) : Type 0 where
  pub each : length met ≡ nets
  pub told : (n : NetId) → slice_index_or met n.0 false ≡ true → IsMet count pieces In held n
  pub all : (n : NetId) → IsMet count pieces In held n → slice_index_or met n.0 false ≡ true

-- two nets that are shorted, before another pair
pub record IsShortBefore (pieces : List Piece) (In : ℕ → ℕ → Type 0) (bound : Short) (s : Short) : Type 0 where
  pub short : IsShort pieces In s
  pub early : IsEarlierPair s bound
