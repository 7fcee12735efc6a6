-- What a verdict says of a certificate and a connection.
use Rattle.std.specs.Prelude.{ℕ, ◌≡◌, List, Option, Some, None, ⊤}
use Rattle.geo_rect.specs.declared.ids.Spot.{Spot}
use Rattle.board_model.specs.declared.made.Conn.{Conn}
use Rattle.board_parts.specs.declared.parts.BoardParts.{BoardParts}
use Rattle.route_law.specs.declared.certs.Cert.{Cert}
use Rattle.route_law.specs.Ground.{Ground}
use Rattle.route_law.specs.Right.{IsBoundOf, IsRight}
use Rattle.route_law.specs.Joins.{IsConnection}
use Rattle.cert_check.specs.declared.verdicts.Verdict.{Verdict}
use Rattle.cert_check.specs.declared.verdicts.Verdict.TheVariants.{Yes, No}
use Rattle.cert_check.specs.declared.verdicts.Why.{Why}
use Rattle.cert_check.specs.declared.verdicts.Why.TheVariants as why
use Rattle.cert_check.specs.Searches.{IsFirst}
use Rattle.cert_check.specs.Stages.{Placed, Founded, Started, Followed, ArePlaced, AreFounded, IsStarted, IsClosed}
use Rattle.route_law.specs.declared.certs.Entry.{Entry}

-- the connection is a walk from a source box to a target box, and costs d
pub record IsWalkOf (b : BoardParts) (g : Ground) (sources targets : List Spot) (conn : Conn) (d : ℕ) : Type 0 where
  pub connection : IsConnection b g conn sources targets
  pub cost : conn.cost ≡ d

-- the connection is a walk that costs the bound, and there is none where there is no bound
abbrev pub IsMatch : BoardParts → Ground → List Spot → List Spot → Option Conn → Option ℕ → Type 0
IsMatch b g sources targets None None = ⊤
IsMatch b g sources targets (Some conn) (Some d) = IsWalkOf b g sources targets conn d
IsMatch b g sources targets (Some conn) None = ⊥
IsMatch b g sources targets None (Some d) = ⊥

-- the bound of a certificate whose entries are closed under moves is not what its cheapest end costs
pub record IsBoundFault (g : Ground) (sources targets : List Spot) (cert : Cert) (n : ℕ) : Type 0 where
  pub closed : IsClosed g sources targets cert
  pub wrong : ¬ IsBoundOf targets cert.entries cert.bound
  pub no_entry : n ≡ 0

-- the certificate is right, and the connection does not match its bound
pub record IsPathFault (b : BoardParts) (g : Ground) (sources targets : List Spot) (conn : Option Conn) (cert : Cert) (n : ℕ) : Type 0 where
  pub right : IsRight g sources targets cert
  pub wrong : ¬ IsMatch b g sources targets conn cert.bound
  pub no_entry : n ≡ 0

-- all before this part is as it should be, and the item of number n is the first for which this part is not
abbrev pub IsFault : BoardParts → Ground → List Spot → List Spot → Option Conn → Cert → ℕ → Why → Type 0
IsFault b g sources targets conn cert n why.Strip = IsFirst Entry (Placed g) cert.entries n
IsFault b g sources targets conn cert n why.Origin = ArePlaced g cert.entries × IsFirst Entry (Founded g sources cert.entries) cert.entries n
IsFault b g sources targets conn cert n why.CoverSource = AreFounded g sources cert.entries × IsFirst Spot (Started g targets cert) sources n
IsFault b g sources targets conn cert n why.Cover = IsStarted g sources targets cert × IsFirst Entry (Followed g targets cert) cert.entries n
IsFault b g sources targets conn cert n why.Bound = IsBoundFault g sources targets cert n
IsFault b g sources targets conn cert n why.Path = IsPathFault b g sources targets conn cert n

-- the certificate is right and the connection matches its bound
pub record IsGood (b : BoardParts) (g : Ground) (sources targets : List Spot) (conn : Option Conn) (cert : Cert) : Type 0 where
  pub right : IsRight g sources targets cert
  pub match : IsMatch b g sources targets conn cert.bound

-- what the verdict says: that all is right, or the first fault
abbrev pub IsVerdict : BoardParts → Ground → List Spot → List Spot → Option Conn → Cert → Verdict → Type 0
IsVerdict b g sources targets conn cert Yes = IsGood b g sources targets conn cert
IsVerdict b g sources targets conn cert (No n reason) = IsFault b g sources targets conn cert n reason

-- P, if the verdict is yes
abbrev pub IfYes : Verdict → Type 0 → Type 0
IfYes Yes P = P
IfYes (No n reason) P = ⊤
