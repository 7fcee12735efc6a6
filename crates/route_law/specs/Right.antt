-- When a certificate is right.
use Rattle.std.specs.Prelude.{ℕ, ◌≡◌, ◌+◌, ◌<◌, ◌≤◌, List, Contains, Option, Some, None, slice_get}
use Rattle.geo_rect.specs.declared.ids.KindId.{KindId}
use Rattle.geo_rect.specs.declared.ids.Spot.{Spot}
use Rattle.geo_rect.specs.declared.shapes.Rect.{Rect}
use Rattle.geo_rect.specs.Distance.{IsDistance}
use Rattle.geo_rect.specs.Plane.{LiesIn, IsMeet, ShareNoPoint}
use Rattle.route_law.specs.declared.certs.Cert.{Cert}
use Rattle.route_law.specs.declared.certs.Entry.{Entry}
use Rattle.route_law.specs.declared.certs.Origin.{Origin}
use Rattle.route_law.specs.declared.certs.Origin.TheVariants.{Source, Step, Via}
use Rattle.route_law.specs.Ground.{Ground, IsWireStrip}
use Rattle.route_law.specs.Moves.{Arrival, arrival_of, IsEdgeMove, IsViaMove}
use Rattle.route_law.specs.Covers.{IsCovered}

-- the entry's strip is one that the net may pass, and has the front
pub record IsWellPlaced (g : Ground) (e : Entry) : Type 0 where
  pub passable : IsWireStrip g e.layer e.strip
  pub holds : LiesIn e.front e.strip

-- a starts, at no cost, with what its strip has of the box
pub record IsStart (g : Ground) (box : Spot) (a : Arrival) : Type 0 where
  pub same_layer : a.layer ≡ box.layer
  pub passable : IsWireStrip g a.layer a.strip
  pub common : IsMeet a.strip box.area a.front
  pub cost : a.cost ≡ 0

-- the start of the box of this number
pub record IsFromSource (g : Ground) (sources : List Spot) (n : ℕ) (a : Arrival) : Type 0 where
  pub box : Spot
  pub numbered : slice_get sources n ≡ Some box
  pub start : IsStart g box a

-- the entry of number n, which comes before the one of number limit, has the property
pub record IsFromEntry (entries : List Entry) (limit n : ℕ) (Holds : Arrival → Type 0) : Type 0 where
  pub entry : Entry
  pub earlier : n < limit
  pub numbered : slice_get entries n ≡ Some entry
  pub holds : Holds (arrival_of entry)

-- the arrival, that of the entry of number n, comes from where its origin says
abbrev pub IsFrom : Ground → List Spot → List Entry → ℕ → Arrival → Origin → Type 0
IsFrom g sources entries n a (Source m) = IsFromSource g sources m a
IsFrom g sources entries n a (Step m) = IsFromEntry entries n m (λ b. IsEdgeMove g b a)
IsFrom g sources entries n a (Via m k) = IsFromEntry entries n m (λ b. IsViaMove g k b a)

-- each start and each move of an entry is covered
pub record IsComplete (g : Ground) (sources targets : List Spot) (cert : Cert) : Type 0 where
  pub starts : (box : Spot) (a : Arrival) → Contains sources box → IsStart g box a → IsCovered targets cert a
  pub edges : (e : Entry) (a : Arrival) → Contains cert.entries e → IsEdgeMove g (arrival_of e) a → IsCovered targets cert a
  pub vias : (e : Entry) (k : KindId) (a : Arrival) → Contains cert.entries e → IsViaMove g k (arrival_of e) a → IsCovered targets cert a

-- the entry comes to a target box, in its own strip, at this cost in all
pub record IsEnd (targets : List Spot) (e : Entry) (total : ℕ) : Type 0 where
  pub box : Spot
  pub listed : Contains targets box
  pub same_layer : box.layer ≡ e.layer
  pub common : Rect
  pub is_common : IsMeet e.strip box.area common
  pub way : ℕ
  pub distance : IsDistance e.front common way
  pub sum : total ≡ e.cost + way

-- some entry comes to a target box at the cost d, and none for less
pub record IsLeastEnd (targets : List Spot) (entries : List Entry) (d : ℕ) : Type 0 where
  pub entry : Entry
  pub listed : Contains entries entry
  pub reached : IsEnd targets entry d
  pub least : (e : Entry) (n : ℕ) → Contains entries e → IsEnd targets e n → d ≤ n

-- no entry's strip has a point of a target box of its layer
abbrev pub HasNoEnd : List Spot → List Entry → Type 0
HasNoEnd targets entries =
    (e : Entry) (box : Spot) → Contains entries e → Contains targets box → box.layer ≡ e.layer → ShareNoPoint e.strip box.area

-- the bound is what the cheapest end costs, and there is none where there is no end
abbrev pub IsBoundOf : List Spot → List Entry → Option ℕ → Type 0
IsBoundOf targets entries None = HasNoEnd targets entries
IsBoundOf targets entries (Some d) = IsLeastEnd targets entries d

-- the certificate is right for this ground, these sources and these targets
pub record IsRight (g : Ground) (sources targets : List Spot) (cert : Cert) : Type 0 where
  pub placed : (e : Entry) → Contains cert.entries e → IsWellPlaced g e
  pub founded : (n : ℕ) (e : Entry) → slice_get cert.entries n ≡ Some e → IsFrom g sources cert.entries n (arrival_of e) e.origin
  pub complete : IsComplete g sources targets cert
  pub bound : IsBoundOf targets cert.entries cert.bound
