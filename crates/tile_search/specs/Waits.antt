-- Fronts that wait in the queue, and what is taken out of it and put into it.
use Rattle.std.specs.Prelude.{ℕ, ◌≡◌, ◌≤◌, ◌<◌, ◌⊎◌, List, Contains, Option, Some, None, slice_get}
use Rattle.geo_rect.specs.declared.ids.Spot.{Spot}
use Rattle.geo_rect.specs.Plane.{IsBounded}
use Rattle.route_law.specs.declared.certs.Entry.{Entry}
use Rattle.route_law.specs.Ground.{Ground}
use Rattle.route_law.specs.Moves.{Arrival, arrival_of}
use Rattle.route_law.specs.Covers.{IsReachedBefore}
use Rattle.route_law.specs.Right.{IsStart}
use Rattle.strip_moves.specs.Listed.{IsStartFrom}
use Rattle.wavefront.specs.Waiting.{Pair}
use Rattle.tile_search.specs.declared.goals.Goal.{Goal}
use Rattle.tile_search.specs.Keys.{IsKey}

-- the coordinates of the front lie between -2^25 and 2^25
abbrev pub HasBoundedFront : Pair → Type 0
HasBoundedFront p = IsBounded p.entry.front

-- some front that waits is the arrival
pub record Waits (pairs : List Pair) (a : Arrival) : Type 0 where
  pub pair : Pair
  pub listed : Contains pairs pair
  pub same : arrival_of pair.entry ≡ a

-- the pair is one of the entries under its key
pub record IsPairOf (targets : List Spot) (entries : List Entry) (p : Pair) : Type 0 where
  pub listed : Contains entries p.entry
  pub key : IsKey targets p.entry p.key

-- the entry waits under some key
pub record HasEntry (pairs : List Pair) (e : Entry) : Type 0 where
  pub key : ℕ
  pub listed : Contains pairs (record { key = key; entry = e })

-- beside the old pairs the new list has exactly the entries, each under its key
pub record IsPushed (targets : List Spot) (old new : List Pair) (entries : List Entry) : Type 0 where
  pub kept : (p : Pair) → Contains old p → Contains new p
  pub each : (p : Pair) → Contains new p → Contains old p ⊎ IsPairOf targets entries p
  pub all : (e : Entry) → Contains entries e → HasEntry new e

-- a goal is found that costs no more than this
abbrev pub IsLate : Option Goal → ℕ → Type 0
IsLate None key = ⊥
IsLate (Some goal) key = goal.cost ≤ key

-- the front is covered by a settled one, or its key is at least what the best goal costs
abbrev pub IsNeedless : List Entry → Option Goal → Pair → Type 0
IsNeedless entries best p = IsReachedBefore entries (arrival_of p.entry) ⊎ IsLate best p.key

-- no front that waits is of use
abbrev pub AreNeedless : List Entry → Option Goal → List Pair → Type 0
AreNeedless entries best pairs = (p : Pair) → Contains pairs p → IsNeedless entries best p

-- the pair is still there, or covered by a settled front
abbrev pub IsLeft : List Entry → List Pair → Pair → Type 0
IsLeft entries new p = Contains new p ⊎ IsReachedBefore entries (arrival_of p.entry)

-- some pairs are taken out that settled fronts cover, and no others
pub record IsThinned (entries : List Entry) (old new : List Pair) : Type 0 where
  pub kept : (p : Pair) → Contains new p → Contains old p
  pub rest : (p : Pair) → Contains old p → IsLeft entries new p

-- the entry, which no settled front covers, is taken out under some key, less than what the best goal costs and
-- the least of those left, and with it some pairs that settled fronts cover, and no others
pub record IsNext (entries : List Entry) (best : Option Goal) (old new : List Pair) (e : Entry) : Type 0 where
  pub key : ℕ
  pub early : IsLate best key → ⊥
  pub listed : Contains old (record { key = key; entry = e })
  pub uncovered : IsReachedBefore entries (arrival_of e) → ⊥
  pub least : (p : Pair) → Contains new p → key ≤ p.key
  pub kept : (p : Pair) → Contains new p → Contains old p
  pub rest : (p : Pair) → Contains old p → (p.entry ≡ e) ⊎ IsLeft entries new p

-- the pair is a start of one of the first n source boxes, under its key
pub record IsStartPair (g : Ground) (sources targets : List Spot) (n : ℕ) (p : Pair) : Type 0 where
  pub key : IsKey targets p.entry p.key
  pub number : ℕ
  pub before : number < n
  pub box : Spot
  pub numbered : slice_get sources number ≡ Some box
  pub start : IsStartFrom g box number p.entry

-- the starts of the first n source boxes wait, and nothing else
pub record HasStarts (g : Ground) (sources targets : List Spot) (n : ℕ) (pairs : List Pair) : Type 0 where
  pub each : (p : Pair) → Contains pairs p → IsStartPair g sources targets n p
  pub all : (m : ℕ) (box : Spot) (a : Arrival) → m < n → slice_get sources m ≡ Some box → IsStart g box a → Waits pairs a
