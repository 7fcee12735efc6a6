-- Connections that keep the form of wires and vias. Corner 0 of a connection is its start, and corner k
-- the node in which leg k ends, from 1.
use Rattle.std.specs.Prelude.{◌≡◌, ◌≢◌, ◌<◌, ◌≤ℤ◌, ◌^◌, ℤ, pos, List, [], ◌∷◌, length, All, ⊤}
use Rattle.std.proofs.Common.{neg_ℤ}
use Rattle.geo_rect.specs.declared.ids.KindId.{KindId}
use Rattle.geo_rect.specs.declared.ids.Node.{Node}
use Rattle.geo_rect.specs.declared.shapes.Point.{Point}
use Rattle.board_model.specs.declared.made.Conn.{Conn}
use Rattle.board_model.specs.declared.made.Leg.{Leg}
use Rattle.board_model.specs.declared.made.Leg.TheVariants.{Wire, Via}
use Rattle.board_parts.specs.declared.parts.BoardParts.{BoardParts}
use Rattle.board_model.specs.Labels.{IsInSpan}
use Rattle.board_parts.specs.Lookup.{kind_of}
use Rattle.board_model.specs.Shapes.{place_of, end_of}

-- a coordinate that a corner may have: it lies between -2^24 and 2^24
pub record IsCoordinate (v : ℤ) : Type 0 where
  pub from : neg_ℤ (pos (2 ^ 24)) ≤ℤ v
  pub to : v ≤ℤ pos (2 ^ 24)

-- both coordinates of the point are such
pub record IsPlace (p : Point) : Type 0 where
  pub across : IsCoordinate p.x
  pub up : IsCoordinate p.y

-- a node that may be a corner: it stands on a layer of the board, at a place with such coordinates
pub record IsCorner (b : BoardParts) (v : Node) : Type 0 where
  pub layer : v.layer.0 < length b.layers
  pub place : IsPlace (place_of v)

-- exactly one of x and y differs
pub data IsInLine (p q : Point) : Type 0 where
  across : p.x ≢ q.x → p.y ≡ q.y → IsInLine p q
  up : p.x ≡ q.x → p.y ≢ q.y → IsInLine p q

-- a wire keeps the layer and changes exactly one of x and y
pub record IsWire (from to : Node) : Type 0 where
  pub layer : from.layer ≡ to.layer
  pub line : IsInLine (place_of from) (place_of to)

-- a via keeps x and y, and changes to another layer of its kind's span from one of that span
pub record IsVia (b : BoardParts) (k : KindId) (from to : Node) : Type 0 where
  pub kind : k.0 < length b.kinds
  pub place : place_of from ≡ place_of to
  pub layers : from.layer ≢ to.layer
  pub first : IsInSpan (kind_of b k) from.layer
  pub second : IsInSpan (kind_of b k) to.layer

-- the form that a leg from a node has
abbrev pub HasForm : BoardParts → Node → Leg → Type 0
HasForm b from (Wire to) = IsWire from to
HasForm b from (Via k to) = IsVia b k from to

-- a leg from a node has its form, and ends in a corner
pub record IsStep (b : BoardParts) (from : Node) (leg : Leg) : Type 0 where
  pub form : HasForm b from leg
  pub end : IsCorner b (end_of leg)

-- each of the legs is a step, the first from this node and each other from the end of the one before
abbrev pub AreSteps : BoardParts → Node → List Leg → Type 0
AreSteps b from [] = ⊤
AreSteps b from (leg ∷ legs) = IsStep b from leg × AreSteps b (end_of leg) legs

-- the connection starts in a corner, and each of its legs is a step
pub record IsWellFormed (b : BoardParts) (c : Conn) : Type 0 where
  pub start : IsCorner b c.start
  pub steps : AreSteps b c.start c.legs

-- each connection of each net is well formed
abbrev pub AreWellFormed : BoardParts → List (List Conn) → Type 0
AreWellFormed b lists = All (All (IsWellFormed b)) lists
