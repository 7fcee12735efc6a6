-- The parts of which a move, a cover and an end are made, without the ground.
use Rattle.std.specs.Prelude.{ℕ, ◌≡◌, ◌+◌, ◌^◌, ◌<◌, ◌≤◌}
use Rattle.geo_rect.specs.declared.ids.Spot.{Spot}
use Rattle.geo_rect.specs.declared.shapes.Rect.{Rect}
use Rattle.geo_rect.specs.Distance.{IsDistance, IsReach}
use Rattle.geo_rect.specs.Plane.{IsBounded}
use Rattle.route_law.specs.declared.certs.Entry.{Entry}
use Rattle.route_law.specs.Moves.{Arrival, IsMovedFront}

-- b has the front of a moved through the door, at the cost of the way and the charge
pub record IsMoved (a : Arrival) (door : Rect) (charge : ℕ) (b : Arrival) : Type 0 where
  pub way : ℕ
  pub moved : IsMovedFront a.front door b.front way
  pub cost : b.cost ≡ a.cost + way + charge

-- the entry comes to each point of the arrival's front, in the same strip, at no more than its cost
pub record ComesBefore (e : Entry) (a : Arrival) : Type 0 where
  pub same_layer : e.layer ≡ a.layer
  pub same_strip : e.strip ≡ a.strip
  pub way : ℕ
  pub reach : IsReach e.front a.front way
  pub enough : e.cost + way ≤ a.cost

-- the arrival's cost and the distance to the target box are together d or more
pub record IsFarFrom (d : ℕ) (a : Arrival) (box : Spot) : Type 0 where
  pub way : ℕ
  pub distance : IsDistance a.front box.area way
  pub late : d ≤ a.cost + way

-- the coordinates of the entry's strip and of its front lie between -2^25 and 2^25
pub record IsBoundedEntry (e : Entry) : Type 0 where
  pub strip : IsBounded e.strip
  pub front : IsBounded e.front

-- the coordinates of the entry's front lie between -2^25 and 2^25
abbrev pub HasBoundedFront : Entry → Type 0
HasBoundedFront e = IsBounded e.front

-- the entry's cost leaves room for sums
abbrev pub HasSmallCost : Entry → Type 0
HasSmallCost e = e.cost < 2 ^ 96
