-- What a report tells of groups of pieces. A group is known by the number of its first piece, and `In i f`
-- says that piece number i is in the group of which piece number f is the first.
use Rattle.std.specs.Prelude.{ℕ, ◌≡◌, ◌≢◌, ◌<◌, ◌≤◌, List, length, AllPairs, Contains, Some, slice_get}
use Rattle.geo_rect.specs.declared.ids.NetId.{NetId}
use Rattle.board_model.specs.declared.made.Conn.{Conn}
use Rattle.board_parts.specs.declared.parts.BoardParts.{BoardParts}
use Rattle.net_trace.specs.declared.copper.Piece.{Piece}
use Rattle.net_trace.specs.declared.traced.Group.{Group}
use Rattle.net_trace.specs.declared.traced.OpenNet.{OpenNet}
use Rattle.net_trace.specs.declared.traced.Short.{Short}
use Rattle.net_trace.specs.declared.traced.Traced.{Traced}
use Rattle.net_trace.specs.Pieces.{pieces_of}
use Rattle.net_trace.specs.Touching.{IsLeastJoined}

-- the list has exactly the things that are so, each of them before all later ones
pub record IsListOf {X : Type 0} (IsBefore : X → X → Type 0) (IsSo : X → Type 0) (xs : List X) : Type 0 where
  pub ordered : AllPairs IsBefore xs
  pub each : (x : X) → Contains xs x → IsSo x
  pub all : (x : X) → IsSo x → Contains xs x

-- two numbers of a list in which each stands once
abbrev pub Differ : ℕ → ℕ → Type 0
Differ i j = i ≢ j

-- so many numbers are so
pub record IsCount (IsSo : ℕ → Type 0) (count : ℕ) : Type 0 where
  pub numbers : List ℕ
  pub lists : IsListOf Differ IsSo numbers
  pub many : length numbers ≡ count

-- piece number i is one of the net
pub record IsOfNet (pieces : List Piece) (n : NetId) (i : ℕ) : Type 0 where
  pub piece : Piece
  pub here : slice_get pieces i ≡ Some piece
  pub net : piece.net ≡ n

-- one of the first so many pieces is one of the net, and is in the group
pub record HasPiece (count : ℕ) (pieces : List Piece) (In : ℕ → ℕ → Type 0) (n : NetId) (f : ℕ) : Type 0 where
  pub number : ℕ
  pub early : number < count
  pub of_net : IsOfNet pieces n number
  pub in_group : In number f

-- a group: its first piece, and how many pieces it has
pub record IsGroup (In : ℕ → ℕ → Type 0) (g : Group) : Type 0 where
  pub first : In g.first g.first
  pub size : IsCount (λ i. In i g.first) g.count

-- an open net: its pins, which come before all other pieces, are in two groups or more
pub record IsOpen (b : BoardParts) (pieces : List Piece) (In : ℕ → ℕ → Type 0) (o : OpenNet) : Type 0 where
  pub known : o.net.0 < length b.net_names
  pub held : IsCount (HasPiece (length b.pins) pieces In o.net) o.groups
  pub several : 2 ≤ o.groups

-- two nets, the earlier first, of which one group has a piece of each
pub record IsShort (pieces : List Piece) (In : ℕ → ℕ → Type 0) (s : Short) : Type 0 where
  pub earlier : s.a.0 < s.b.0
  pub group : ℕ
  pub of_a : HasPiece (length pieces) pieces In s.a group
  pub of_b : HasPiece (length pieces) pieces In s.b group

-- groups are in the order of their first pieces
abbrev pub IsEarlierGroup : Group → Group → Type 0
IsEarlierGroup g h = g.first < h.first

-- nets are in the order of the text
abbrev pub IsEarlierNet : OpenNet → OpenNet → Type 0
IsEarlierNet o p = o.net.0 < p.net.0

-- pairs are in the order of their earlier nets, and those of one earlier net in the order of the later ones
pub data IsEarlierPair (s t : Short) : Type 0 where
  by_first : s.a.0 < t.a.0 → IsEarlierPair s t
  by_second : s.a ≡ t.a → s.b.0 < t.b.0 → IsEarlierPair s t

-- how many pieces there are, each group, each open net and each pair of shorted nets
pub record IsReportBy (b : BoardParts) (pieces : List Piece) (In : ℕ → ℕ → Type 0) (r : Traced) : Type 0 where
  pub size : r.pieces ≡ length pieces
  pub groups : IsListOf IsEarlierGroup (IsGroup In) r.groups
  pub opens : IsListOf IsEarlierNet (IsOpen b pieces In) r.opens
  pub shorts : IsListOf IsEarlierPair (IsShort pieces In) r.shorts

-- the report of a state: a group is all pieces that are joined
abbrev pub IsReport : BoardParts → List (List Conn) → Traced → Type 0
IsReport b lists r = IsReportBy b (pieces_of b lists) (IsLeastJoined (pieces_of b lists)) r
