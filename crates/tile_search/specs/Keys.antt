-- The keys under which fronts wait: what a front costs and how far it is at least from a target box.
use Rattle.std.specs.Prelude.{ℕ, ◌≡◌, ◌+◌, ◌^◌, ◌<◌, ◌≤◌, List, Contains, Option, Some, None, ⊤}
use Rattle.geo_rect.specs.declared.ids.Spot.{Spot}
use Rattle.geo_rect.specs.Plane.{IsBounded}
use Rattle.route_law.specs.declared.certs.Entry.{Entry}
use Rattle.route_law.specs.Covers.{IsLow}
use Rattle.tile_search.specs.declared.goals.Goal.{Goal}

-- k is the entry's cost and the least distance from its front to a target box, together
pub record IsKey (targets : List Spot) (e : Entry) (k : ℕ) : Type 0 where
  pub low : ℕ
  pub is_low : IsLow targets e.front low
  pub sum : k ≡ e.cost + low

-- each entry's cost and the least distance from its front to a target box are together at most d
abbrev pub IsGoalOrdered : List Spot → List Entry → ℕ → Type 0
IsGoalOrdered targets entries d = (e : Entry) (n : ℕ) → Contains entries e → IsLow targets e.front n → e.cost + n ≤ d

-- the same with what the best goal costs, where there is one
abbrev pub IsOrderedToBest : List Spot → List Entry → Option Goal → Type 0
IsOrderedToBest targets entries None = ⊤
IsOrderedToBest targets entries (Some goal) = IsGoalOrdered targets entries goal.cost

-- the coordinates of the entry's front lie between -2^25 and 2^25, and its cost leaves room for one more way
pub record HasRoom (e : Entry) : Type 0 where
  pub front : IsBounded e.front
  pub cost : e.cost + 2 ^ 27 < 2 ^ 128
