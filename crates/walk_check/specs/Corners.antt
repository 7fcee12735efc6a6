-- What a connection has at each of its corners, and which corner is the first that is bad. Corner 0 is
-- the start, corner k the node in which leg k ends, from 1.
use Rattle.std.specs.Prelude.{ℕ, ◌≡◌, ◌+◌, ◌<◌, List, take, length, All, Some, slice_get, ⊤}
use Rattle.geo_rect.specs.declared.ids.Node.{Node}
use Rattle.geo_rect.specs.declared.ids.Spot.{Spot}
use Rattle.board_model.specs.declared.made.Conn.{Conn}
use Rattle.board_model.specs.declared.made.Leg.{Leg}
use Rattle.board_model.specs.declared.made.Leg.TheVariants.{Wire, Via}
use Rattle.board_parts.specs.declared.parts.BoardParts.{BoardParts}
use Rattle.board_model.specs.Shapes.{place_of, end_of}
use Rattle.board_model.specs.WellFormed.{IsPlace, IsStep}
use Rattle.route_law.specs.Connections.{steps_of}
use Rattle.route_law.specs.Ground.{Ground, IsPassableNode}
use Rattle.route_law.specs.Walks.{HasNode, last_node, walk_cost}
use Rattle.walk_check.specs.Clear.{IsClearLeg}

-- the coordinates of each corner lie between -2^24 and 2^24
pub record HasPlaces (conn : Conn) : Type 0 where
  pub start : IsPlace (place_of conn.start)
  pub ends : All (λ (leg : Leg). IsPlace (place_of (end_of leg))) conn.legs

-- the node in which the first k legs from v end
abbrev pub corner_after : Node → List Leg → ℕ → Node
corner_after v legs k = last_node v (take k legs)

-- a source box has the node, and the net may pass it
pub record IsGoodStart (g : Ground) (sources : List Spot) (v : Node) : Type 0 where
  pub listed : HasNode sources v
  pub passable : IsPassableNode g v

-- the leg from v has the form of a wire or a via and ends in a corner of the board, and the net may pass it
pub record IsGoodLeg (b : BoardParts) (g : Ground) (v : Node) (leg : Leg) : Type 0 where
  pub step : IsStep b v leg
  pub clear : IsClearLeg g v leg

-- what corner k must have: the first a good start, each other one a good leg that ends there, the last one
-- a target box; and one more than the last stands for the cost
pub record IsGoodCorner (b : BoardParts) (g : Ground) (conn : Conn) (sources targets : List Spot) (k : ℕ) : Type 0 where
  pub at_start : k ≡ 0 → IsGoodStart g sources conn.start
  pub of_leg : (m : ℕ) (leg : Leg) → k ≡ m + 1 → slice_get conn.legs m ≡ Some leg → IsGoodLeg b g (corner_after conn.start conn.legs m) leg
  pub at_end : k ≡ length conn.legs → HasNode targets (last_node conn.start conn.legs)
  pub of_cost : k ≡ length conn.legs + 1 → walk_cost g (steps_of conn) ≡ conn.cost

-- corner k is bad, and each one before it is good
pub record IsFirstBadCorner (b : BoardParts) (g : Ground) (conn : Conn) (sources targets : List Spot) (k : ℕ) : Type 0 where
  pub before : (j : ℕ) → j < k → IsGoodCorner b g conn sources targets j
  pub bad : ¬ IsGoodCorner b g conn sources targets k

-- the first n of the legs from v are good
abbrev pub AreGoodLegs : BoardParts → Ground → Node → List Leg → ℕ → Type 0
AreGoodLegs b g v legs n = (m : ℕ) (leg : Leg) → m < n → slice_get legs m ≡ Some leg → IsGoodLeg b g (corner_after v legs m) leg

-- leg k of those from v, from 1, is the first that is not good
pub record IsFirstBadLeg (b : BoardParts) (g : Ground) (v : Node) (legs : List Leg) (k : ℕ) : Type 0 where
  pub index : ℕ
  pub leg : Leg
  pub numbered : k ≡ index + 1
  pub listed : slice_get legs index ≡ Some leg
  pub before : AreGoodLegs b g v legs index
  pub bad : ¬ IsGoodLeg b g (corner_after v legs index) leg

-- the kind of a via is one of the board's
abbrev pub HasKind : BoardParts → Leg → Type 0
HasKind b (Wire w) = ⊤
HasKind b (Via k w) = k.0 < length b.kinds
