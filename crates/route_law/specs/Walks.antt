-- Walks: from node to node by unit steps of wire and by vias.
use Rattle.std.specs.Prelude.{ℕ, ◌≡◌, ◌≢◌, ◌≤◌, List, [], ◌∷◌, Contains, sum_by}
use Rattle.geo_rect.specs.declared.ids.KindId.{KindId}
use Rattle.geo_rect.specs.declared.ids.Node.{Node}
use Rattle.geo_rect.specs.declared.ids.Spot.{Spot}
use Rattle.geo_rect.specs.Plane.{HasPoint}
use Rattle.geo_rect.specs.Distance.{apart}
use Rattle.board_model.specs.declared.made.Leg.{Leg}
use Rattle.board_model.specs.declared.made.Leg.TheVariants.{Wire, Via}
use Rattle.board_model.specs.Labels.{IsInSpan}
use Rattle.board_model.specs.Shapes.{place_of, end_of}
use Rattle.route_law.specs.Ground.{Ground, IsPassableNode, IsPassableVia}

-- w is one unit from v, on the same layer
pub record IsUnitStep (v w : Node) : Type 0 where
  pub same_layer : w.layer ≡ v.layer
  pub one_unit : apart (place_of v) (place_of w) ≡ 1

-- w is at the same place as v, on another layer, and a via of kind k may stand there and joins the two
pub record IsViaStep (g : Ground) (k : KindId) (v w : Node) : Type 0 where
  pub passable : IsPassableVia g k (place_of v)
  pub from_span : IsInSpan (g.kind k) v.layer
  pub to_span : IsInSpan (g.kind k) w.layer
  pub other_layer : w.layer ≢ v.layer
  pub same_place : place_of w ≡ place_of v

-- a step from v: a wire of one unit, or a via
abbrev pub IsStep : Ground → Node → Leg → Type 0
IsStep g v (Wire w) = IsUnitStep v w
IsStep g v (Via k w) = IsViaStep g k v w

-- a unit of wire costs 1, and a via what its kind is charged
abbrev pub price_of : Ground → Leg → ℕ
price_of g (Wire w) = 1
price_of g (Via k w) = (g.kind k).charge

-- the steps lead on from v, each from where the one before it ended, over nodes that the net may pass
abbrev pub IsWalk : Ground → Node → List Leg → Type 0
IsWalk g v [] = IsPassableNode g v
IsWalk g v (step ∷ steps) = IsPassableNode g v × IsStep g v step × IsWalk g (end_of step) steps

-- the node in which steps from v end
abbrev pub last_node : Node → List Leg → Node
last_node v [] = v
last_node v (step ∷ steps) = last_node (end_of step) steps

-- what the steps cost together
abbrev pub walk_cost : Ground → List Leg → ℕ
walk_cost g steps = sum_by (price_of g) steps

-- one of the boxes has the node
pub record HasNode (boxes : List Spot) (v : Node) : Type 0 where
  pub box : Spot
  pub listed : Contains boxes box
  pub same_layer : box.layer ≡ v.layer
  pub has_point : HasPoint box.area (place_of v)

-- the walk leads from a node of a source box to a node of a target box
pub record IsJoiningWalk (g : Ground) (sources targets : List Spot) (start : Node) (steps : List Leg) : Type 0 where
  pub starts : HasNode sources start
  pub walk : IsWalk g start steps
  pub ends : HasNode targets (last_node start steps)

-- each walk that joins the sources and the targets costs d or more
abbrev pub IsLowerBound : Ground → List Spot → List Spot → ℕ → Type 0
IsLowerBound g sources targets d = (start : Node) (steps : List Leg) → IsJoiningWalk g sources targets start steps → d ≤ walk_cost g steps

-- no walk joins the sources and the targets
abbrev pub HasNoJoiningWalk : Ground → List Spot → List Spot → Type 0
HasNoJoiningWalk g sources targets = (start : Node) (steps : List Leg) → IsJoiningWalk g sources targets start steps → ⊥

-- d is what some walk that joins the sources and the targets costs, and none costs less
pub record IsLeastCost (g : Ground) (sources targets : List Spot) (d : ℕ) : Type 0 where
  pub start : Node
  pub steps : List Leg
  pub joins : IsJoiningWalk g sources targets start steps
  pub cost : walk_cost g steps ≡ d
  pub least : IsLowerBound g sources targets d
