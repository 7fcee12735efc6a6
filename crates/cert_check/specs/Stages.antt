-- The parts of what makes a certificate right, in the order in which they are tried.
use Rattle.std.specs.Prelude.{ℕ, List}
use Rattle.geo_rect.specs.declared.ids.KindId.{KindId}
use Rattle.geo_rect.specs.declared.ids.Spot.{Spot}
use Rattle.plane_set.specs.Places.{EachAt}
use Rattle.route_law.specs.declared.certs.Cert.{Cert}
use Rattle.route_law.specs.declared.certs.Entry.{Entry}
use Rattle.route_law.specs.Covers.{IsCovered}
use Rattle.route_law.specs.Ground.{Ground}
use Rattle.route_law.specs.Moves.{Arrival, arrival_of, IsEdgeMove, IsViaMove}
use Rattle.route_law.specs.Right.{IsWellPlaced, IsFrom, IsStart}

-- each start of the box is covered
abbrev pub HasCoveredStarts : Ground → List Spot → Cert → Spot → Type 0
HasCoveredStarts g targets cert box = (a : Arrival) → IsStart g box a → IsCovered targets cert a

-- each move of the entry is covered
pub record HasCoveredMoves (g : Ground) (targets : List Spot) (cert : Cert) (e : Entry) : Type 0 where
  pub edges : (a : Arrival) → IsEdgeMove g (arrival_of e) a → IsCovered targets cert a
  pub vias : (k : KindId) (a : Arrival) → IsViaMove g k (arrival_of e) a → IsCovered targets cert a

-- what is wanted of the entry of number n: to be well placed
abbrev pub Placed : Ground → ℕ → Entry → Type 0
Placed g n e = IsWellPlaced g e

-- what is wanted of the entry of number n: to come from where it says
abbrev pub Founded : Ground → List Spot → List Entry → ℕ → Entry → Type 0
Founded g sources entries n e = IsFrom g sources entries n (arrival_of e) e.origin

-- what is wanted of the source box of number n: that each of its starts is covered
abbrev pub Started : Ground → List Spot → Cert → ℕ → Spot → Type 0
Started g targets cert n box = HasCoveredStarts g targets cert box

-- what is wanted of the entry of number n: that each of its moves is covered
abbrev pub Followed : Ground → List Spot → Cert → ℕ → Entry → Type 0
Followed g targets cert n e = HasCoveredMoves g targets cert e

-- each entry is well placed
abbrev pub ArePlaced : Ground → List Entry → Type 0
ArePlaced g entries = EachAt (Placed g) entries

-- each entry is well placed and comes from where it says
pub record AreFounded (g : Ground) (sources : List Spot) (entries : List Entry) : Type 0 where
  pub placed : ArePlaced g entries
  pub founded : EachAt (Founded g sources entries) entries

-- besides, each start of each source box is covered
pub record IsStarted (g : Ground) (sources targets : List Spot) (cert : Cert) : Type 0 where
  pub entries : AreFounded g sources cert.entries
  pub starts : EachAt (Started g targets cert) sources

-- besides, each move of each entry is covered
pub record IsClosed (g : Ground) (sources targets : List Spot) (cert : Cert) : Type 0 where
  pub started : IsStarted g sources targets cert
  pub moves : EachAt (Followed g targets cert) cert.entries
