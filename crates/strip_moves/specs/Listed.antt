-- What a list of entries has of the starts of a source box, and of the moves of an entry.
use Rattle.std.specs.Prelude.{ℕ, ◌≡◌, List, Contains}
use Rattle.geo_rect.specs.declared.ids.KindId.{KindId}
use Rattle.geo_rect.specs.declared.ids.Spot.{Spot}
use Rattle.route_law.specs.declared.certs.Entry.{Entry}
use Rattle.route_law.specs.declared.certs.Origin.{Origin}
use Rattle.route_law.specs.declared.certs.Origin.TheVariants.{Source, Step, Via}
use Rattle.route_law.specs.Ground.{Ground}
use Rattle.route_law.specs.Moves.{Arrival, arrival_of, IsEdgeMove, IsViaMove}
use Rattle.route_law.specs.Right.{IsStart}

-- some listed entry is the arrival, and has this origin
pub record HasArrival (entries : List Entry) (origin : Origin) (a : Arrival) : Type 0 where
  pub entry : Entry
  pub listed : Contains entries entry
  pub same : arrival_of entry ≡ a
  pub from : entry.origin ≡ origin

-- the entry is a start of the source box of number n, and its origin says so
pub record IsStartFrom (g : Ground) (box : Spot) (n : ℕ) (e : Entry) : Type 0 where
  pub start : IsStart g box (arrival_of e)
  pub from : e.origin ≡ Source n

-- the entry is a move from a, the arrival of the entry of number n, and its origin says which
pub data IsMoveFrom (g : Ground) (a : Arrival) (n : ℕ) (e : Entry) : Type 0 where
  by_edge : e.origin ≡ Step n → IsEdgeMove g a (arrival_of e) → IsMoveFrom g a n e
  by_via : (k : KindId) → e.origin ≡ Via n k → IsViaMove g k a (arrival_of e) → IsMoveFrom g a n e
