-- Nodes of target boxes to which entries come within their strips, and the cheapest of them.
use Rattle.std.specs.Prelude.{ℕ, ◌≡◌, ◌+◌, ◌≤◌, nat_lt, cond, List, Contains, Option, Some, None, slice_get}
use Rattle.geo_rect.specs.declared.ids.Spot.{Spot}
use Rattle.geo_rect.specs.declared.shapes.Rect.{Rect}
use Rattle.geo_rect.specs.Distance.{IsAway}
use Rattle.geo_rect.specs.Plane.{HasPoint}
use Rattle.board_model.specs.Shapes.{place_of}
use Rattle.route_law.specs.declared.certs.Entry.{Entry}
use Rattle.tile_search.specs.declared.goals.Goal.{Goal}

-- the goal is a node of this part of the strip of the entry of number n, and costs what the entry does and
-- the way there from its front
pub record IsGoalIn (part : Rect) (n : ℕ) (e : Entry) (goal : Goal) : Type 0 where
  pub numbered : goal.entry ≡ n
  pub same_layer : goal.end.layer ≡ e.layer
  pub in_part : HasPoint part (place_of goal.end)
  pub way : ℕ
  pub away : IsAway e.front (place_of goal.end) way
  pub sum : goal.cost ≡ e.cost + way

-- the goal is a node of this box, in the strip of the entry of number n, and costs what the entry does
-- and the way there from its front
pub record IsGoalAt (box : Spot) (n : ℕ) (e : Entry) (goal : Goal) : Type 0 where
  pub numbered : goal.entry ≡ n
  pub box_layer : box.layer ≡ e.layer
  pub same_layer : goal.end.layer ≡ e.layer
  pub in_box : HasPoint box.area (place_of goal.end)
  pub in_strip : HasPoint e.strip (place_of goal.end)
  pub way : ℕ
  pub away : IsAway e.front (place_of goal.end) way
  pub sum : goal.cost ≡ e.cost + way

-- the goal is a node of one of the boxes
pub record IsGoalOf (targets : List Spot) (n : ℕ) (e : Entry) (goal : Goal) : Type 0 where
  pub box : Spot
  pub listed : Contains targets box
  pub at : IsGoalAt box n e goal

-- one of the entries comes to the goal
pub record IsGoalAmong (targets : List Spot) (entries : List Entry) (goal : Goal) : Type 0 where
  pub entry : Entry
  pub numbered : slice_get entries goal.entry ≡ Some entry
  pub reached : IsGoalOf targets goal.entry entry goal

-- the goal has the property, and none that has it costs less
pub record IsCheapest (Has : Goal → Type 0) (goal : Goal) : Type 0 where
  pub there : Has goal
  pub least : (other : Goal) → Has other → goal.cost ≤ other.cost

-- a cheapest goal with the property, none where no goal has it
abbrev pub IsLeastGoal : (Goal → Type 0) → Option Goal → Type 0
IsLeastGoal Has None = (goal : Goal) → Has goal → ⊥
IsLeastGoal Has (Some goal) = IsCheapest Has goal

-- the cheaper of two goals
abbrev pub lesser_goal : Goal → Goal → Goal
lesser_goal m n = cond (nat_lt n.cost m.cost) n m

-- the cheaper of two goals, of which one or both may be absent
abbrev pub lesser_of : Option Goal → Option Goal → Option Goal
lesser_of None b = b
lesser_of (Some m) None = Some m
lesser_of (Some m) (Some n) = Some (lesser_goal m n)
