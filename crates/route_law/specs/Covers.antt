-- Why a certificate may leave an arrival out.
use Rattle.std.specs.Prelude.{ℕ, ◌≡◌, ◌+◌, ◌≤◌, ◌⊎◌, List, Contains, IsSomeAnd}
use Rattle.geo_rect.specs.declared.ids.Spot.{Spot}
use Rattle.geo_rect.specs.declared.shapes.Rect.{Rect}
use Rattle.geo_rect.specs.Distance.{IsDistance, IsReach}
use Rattle.route_law.specs.declared.certs.Cert.{Cert}
use Rattle.route_law.specs.declared.certs.Entry.{Entry}
use Rattle.route_law.specs.Moves.{Arrival}

-- an entry of the same strip comes to each point of the arrival's front at no more than its cost
pub record IsReachedBefore (entries : List Entry) (a : Arrival) : Type 0 where
  pub entry : Entry
  pub listed : Contains entries entry
  pub same_layer : entry.layer ≡ a.layer
  pub same_strip : entry.strip ≡ a.strip
  pub way : ℕ
  pub reach : IsReach entry.front a.front way
  pub enough : entry.cost + way ≤ a.cost

-- n is the least distance from the front to a target box, the layers left out
pub record IsLow (targets : List Spot) (front : Rect) (n : ℕ) : Type 0 where
  pub nearest : Spot
  pub listed : Contains targets nearest
  pub distance : IsDistance front nearest.area n
  pub least : (box : Spot) (m : ℕ) → Contains targets box → IsDistance front box.area m → n ≤ m

-- the arrival's cost and the least distance to a target box are together d or more
pub record IsTooLate (targets : List Spot) (d : ℕ) (a : Arrival) : Type 0 where
  pub low : ℕ
  pub is_low : IsLow targets a.front low
  pub late : d ≤ a.cost + low

-- an entry of the same strip is as good as the arrival, or the bound is
abbrev pub IsCovered : List Spot → Cert → Arrival → Type 0
IsCovered targets cert a = IsReachedBefore cert.entries a ⊎ IsSomeAnd cert.bound (λ d. IsTooLate targets d a)
