-- The way back from an entry of a certificate to a source.
use Rattle.std.specs.Prelude.{ℕ, ◌≡◌, ◌+◌, ◌<◌, List, Contains, Option, Some, None, slice_get, ⊤}
use Rattle.geo_rect.specs.declared.ids.Node.{Node}
use Rattle.geo_rect.specs.declared.ids.Spot.{Spot}
use Rattle.geo_rect.specs.declared.shapes.Point.{Point}
use Rattle.geo_rect.specs.declared.shapes.Rect.{Rect}
use Rattle.geo_rect.specs.Distance.{apart, IsAway}
use Rattle.geo_rect.specs.Plane.{HasPoint}
use Rattle.board_model.specs.declared.made.Leg.TheVariants.{Wire}
use Rattle.board_parts.specs.declared.parts.BoardParts.{BoardParts}
use Rattle.board_model.specs.Shapes.{place_of}
use Rattle.route_law.specs.declared.certs.Entry.{Entry}
use Rattle.route_law.specs.declared.certs.Origin.{Origin}
use Rattle.route_law.specs.declared.certs.Origin.TheVariants.{Source, Step, Via}
use Rattle.route_law.specs.Ground.{Ground}
use Rattle.route_law.specs.Moves.{arrival_of}
use Rattle.route_law.specs.Right.{IsWellPlaced, IsFrom}
use Rattle.route_law.specs.Walks.{HasNode}
use Rattle.route_law.specs.Connections.{steps_of_legs}
use Rattle.path_trace.specs.declared.paths.Path.{Path}
use Rattle.path_trace.specs.Paths.{node_at, legs_of, IsLed, IsBoardGround, IsPath}
use Rattle.path_trace.specs.Strips.{IsInStripOf, StaysInStrips}

-- an entry from which this one comes has a lower number than n
abbrev pub ComesBefore : ℕ → Origin → Type 0
ComesBefore n (Source j) = ⊤
ComesBefore n (Step m) = m < n
ComesBefore n (Via m k) = m < n

-- each entry comes from a source box or from an earlier entry
abbrev pub AreEarlier : List Entry → Type 0
AreEarlier entries = (n : ℕ) (e : Entry) → slice_get entries n ≡ Some e → ComesBefore n e.origin

-- each entry lies in a strip that the net may pass, and comes from a source box or an earlier entry as it says
pub record IsSound (b : BoardParts) (g : Ground) (sources : List Spot) (entries : List Entry) : Type 0 where
  pub ground : IsBoardGround b g
  pub placed : (e : Entry) → Contains entries e → IsWellPlaced g e
  pub founded : (n : ℕ) (e : Entry) → slice_get entries n ≡ Some e → IsFrom g sources entries n (arrival_of e) e.origin

-- the path starts in the strip of entry n; what this entry promises there, and the path, cost
-- total; and the path stays in strips of entries
pub record IsTrace (b : BoardParts) (g : Ground) (entries : List Entry) (goal : Node) (total n : ℕ) (p : Path) : Type 0 where
  pub entry : Entry
  pub numbered : slice_get entries n ≡ Some entry
  pub inside : IsInStripOf entry p.start
  pub way : ℕ
  pub away : IsAway entry.front (place_of p.start) way
  pub made : ℕ
  pub path : IsPath b g goal p.start (legs_of p) made
  pub sum : total ≡ entry.cost + way + made
  pub strips : StaysInStrips entries p.start (steps_of_legs p.start (legs_of p))

-- the path starts in the front of the entry; what the entry costs, and the path, cost total; and the
-- path stays in strips of entries
pub record IsAtFront (b : BoardParts) (g : Ground) (entries : List Entry) (e : Entry) (goal : Node) (total : ℕ) (p : Path) : Type 0 where
  pub same_layer : p.start.layer ≡ e.layer
  pub here : HasPoint e.front (place_of p.start)
  pub made : ℕ
  pub path : IsPath b g goal p.start (legs_of p) made
  pub sum : total ≡ e.cost + made
  pub strips : StaysInStrips entries p.start (steps_of_legs p.start (legs_of p))

-- the path starts in a source box, costs total, and stays in strips of entries
pub record IsWhole (b : BoardParts) (g : Ground) (sources : List Spot) (entries : List Entry) (goal : Node) (total : ℕ) (p : Path) : Type 0 where
  pub starts : HasNode sources p.start
  pub path : IsPath b g goal p.start (legs_of p) total
  pub strips : StaysInStrips entries p.start (steps_of_legs p.start (legs_of p))

-- the path is whole, or has come to the entry of the number
abbrev pub IsTracedTo : BoardParts → Ground → List Spot → List Entry → Node → ℕ → Option ℕ → Path → Type 0
IsTracedTo b g sources entries goal total None p = IsWhole b g sources entries goal total p
IsTracedTo b g sources entries goal total (Some n) p = IsTrace b g entries goal total n p

-- a path in the front of the entry, which has the number n, becomes one that is whole or comes to an earlier entry
abbrev pub LeavesEntry : List Entry → ℕ → Entry → Option ℕ → Path → Path → Type 0
LeavesEntry entries n e before old new = (b : BoardParts) (g : Ground) (sources : List Spot) (goal : Node) (total : ℕ) → IsSound b g sources entries → slice_get entries n ≡ Some e → IsAtFront b g entries e goal total old → IsTracedTo b g sources entries goal total before new

-- a path in the strip of entry n becomes one that is whole or comes to an earlier entry
abbrev pub GoesBack : List Entry → ℕ → Option ℕ → Path → Path → Type 0
GoesBack entries n before old new = (b : BoardParts) (g : Ground) (sources : List Spot) (goal : Node) (total : ℕ) → IsSound b g sources entries → IsTrace b g entries goal total n old → IsTracedTo b g sources entries goal total before new

-- a point of the strip is one step from p
pub record IsOneStepOff (t : Rect) (p : Point) : Type 0 where
  pub point : Point
  pub here : HasPoint t point
  pub one_step : apart point p ≡ 1
  pub outside : HasPoint t p → ⊥

-- the new path starts in t, one step from where the old one starts, and goes on as the old one
pub record IsCrossed (t : Rect) (old new : Path) : Type 0 where
  pub point : Point
  pub here : HasPoint t point
  pub one_step : apart point (place_of old.start) ≡ 1
  pub led : IsLed (node_at old.start.layer point) (Wire old.start) old new
