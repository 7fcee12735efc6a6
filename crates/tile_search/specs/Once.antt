-- The order in which fronts are settled.
use Rattle.std.specs.Prelude.{ℕ, ◌≡◌, ◌<◌, ◌≤◌, List, Some, slice_get}
use Rattle.geo_rect.specs.declared.ids.Spot.{Spot}
use Rattle.route_law.specs.declared.certs.Entry.{Entry}
use Rattle.tile_search.specs.Keys.{IsKey}

-- the two entries have the same front in the same strip
pub record IsSameFront (x y : Entry) : Type 0 where
  pub layer : x.layer ≡ y.layer
  pub strip : x.strip ≡ y.strip
  pub front : x.front ≡ y.front

-- no entry has a lesser key than an earlier one, and no two entries have the same front
pub record AreSettledOnce (targets : List Spot) (entries : List Entry) : Type 0 where
  pub rising : (m n : ℕ) (x y : Entry) (i j : ℕ) → m < n → slice_get entries m ≡ Some x → slice_get entries n ≡ Some y → IsKey targets x i → IsKey targets y j → i ≤ j
  pub once : (m n : ℕ) (x y : Entry) → m < n → slice_get entries m ≡ Some x → slice_get entries n ≡ Some y → IsSameFront x y → ⊥
