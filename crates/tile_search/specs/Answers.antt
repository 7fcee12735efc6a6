-- What the answer of a search says.
use Rattle.std.specs.Prelude.{ℕ, ◌≡◌, ◌+◌, List, Option, Some, None, ⊤, slice_get}
use Rattle.geo_rect.specs.declared.ids.Node.{Node}
use Rattle.geo_rect.specs.declared.ids.Spot.{Spot}
use Rattle.geo_rect.specs.Distance.{IsAway}
use Rattle.geo_rect.specs.Plane.{HasPoint}
use Rattle.board_model.specs.Shapes.{place_of}
use Rattle.route_law.specs.declared.certs.Cert.{Cert}
use Rattle.route_law.specs.declared.certs.Entry.{Entry}
use Rattle.route_law.specs.Ground.{Ground}
use Rattle.route_law.specs.Right.{IsRight}
use Rattle.route_law.specs.Walks.{HasNode, IsLeastCost}
use Rattle.tile_search.specs.declared.answers.Found.{Found}
use Rattle.tile_search.specs.declared.answers.Found.TheVariants.{Path, NoRoute}
use Rattle.tile_search.specs.declared.goals.Goal.{Goal}
use Rattle.tile_search.specs.Keys.{IsGoalOrdered}
use Rattle.tile_search.specs.Once.{AreSettledOnce}
use Rattle.tile_search.specs.Underway.{cert_of}

-- the certificate is right, and bounds all walks by this cost
pub record IsRightPath (g : Ground) (sources targets : List Spot) (cost : ℕ) (cert : Cert) : Type 0 where
  pub right : IsRight g sources targets cert
  pub bound : cert.bound ≡ Some cost

-- a path comes with a right certificate whose bound is its cost
abbrev pub HasRightPath : Ground → List Spot → List Spot → Found → Type 0
HasRightPath g sources targets (Path cost entry end cert) = IsRightPath g sources targets cost cert
HasRightPath g sources targets (NoRoute cert) = ⊤

-- the entry of number n comes within its strip to the node v of a target box, at this cost in all
pub record IsPathEnd (targets : List Spot) (entries : List Entry) (cost n : ℕ) (v : Node) : Type 0 where
  pub entry : Entry
  pub numbered : slice_get entries n ≡ Some entry
  pub of_target : HasNode targets v
  pub same_layer : v.layer ≡ entry.layer
  pub in_strip : HasPoint entry.strip (place_of v)
  pub way : ℕ
  pub away : IsAway entry.front (place_of v) way
  pub sum : cost ≡ entry.cost + way

-- a path ends in a node of a target box
abbrev pub HasPathEnd : List Spot → Found → Type 0
HasPathEnd targets (Path cost entry end cert) = IsPathEnd targets cert.entries cost entry end
HasPathEnd targets (NoRoute cert) = ⊤

-- some walk from a source box to a target box costs what the path does, and none costs less
abbrev pub HasLeastCost : Ground → List Spot → List Spot → Found → Type 0
HasLeastCost g sources targets (Path cost entry end cert) = IsLeastCost g sources targets cost
HasLeastCost g sources targets (NoRoute cert) = ⊤

-- the certificate is right, and has no bound
pub record IsRightRefusal (g : Ground) (sources targets : List Spot) (cert : Cert) : Type 0 where
  pub right : IsRight g sources targets cert
  pub bound : cert.bound ≡ None

-- that there is no route comes with a right certificate without a bound
abbrev pub HasRightRefusal : Ground → List Spot → List Spot → Found → Type 0
HasRightRefusal g sources targets (Path cost entry end cert) = ⊤
HasRightRefusal g sources targets (NoRoute cert) = IsRightRefusal g sources targets cert

-- the answer is that there is no route
abbrev pub IsNoRoute : Found → Type 0
IsNoRoute (Path cost entry end cert) = ⊥
IsNoRoute (NoRoute cert) = ⊤

-- the certificate lists fronts in the order in which they were settled, each once
abbrev pub HasEachFrontOnce : List Spot → Found → Type 0
HasEachFrontOnce targets (Path cost entry end cert) = AreSettledOnce targets cert.entries
HasEachFrontOnce targets (NoRoute cert) = AreSettledOnce targets cert.entries

-- of a path, each entry's cost and the least distance from its front to a target box are together at most its cost
abbrev pub HasGoalOrder : List Spot → Found → Type 0
HasGoalOrder targets (Path cost entry end cert) = IsGoalOrdered targets cert.entries cost
HasGoalOrder targets (NoRoute cert) = ⊤

-- the answer is this goal, with this certificate
pub record IsPathTo (goal : Goal) (certificate : Cert) (cost n : ℕ) (v : Node) (cert : Cert) : Type 0 where
  pub same_cost : cost ≡ goal.cost
  pub same_entry : n ≡ goal.entry
  pub same_end : v ≡ goal.end
  pub same_cert : cert ≡ certificate

-- the answer that settled fronts and the best goal give
abbrev pub IsAnswerOf : List Entry → Option Goal → Found → Type 0
IsAnswerOf entries None (NoRoute cert) = cert ≡ cert_of entries None
IsAnswerOf entries None (Path cost entry end cert) = ⊥
IsAnswerOf entries (Some goal) (NoRoute cert) = ⊥
IsAnswerOf entries (Some goal) (Path cost entry end cert) = IsPathTo goal (cert_of entries (Some goal)) cost entry end cert
