-- Legs that lead to the end of a connection, and what becomes of them when a leg is put before them.
use Rattle.std.specs.Prelude.{ℕ, ◌≡◌, ◌+◌, List, ◌++◌, Contains, length, reverse}
use Rattle.geo_rect.specs.declared.ids.KindId.{KindId}
use Rattle.geo_rect.specs.declared.ids.LayerId.{LayerId}
use Rattle.geo_rect.specs.declared.ids.Node.{Node}
use Rattle.geo_rect.specs.declared.shapes.Point.{Point}
use Rattle.geo_rect.specs.declared.shapes.Rect.{Rect}
use Rattle.geo_rect.specs.Distance.{apart}
use Rattle.geo_rect.specs.Plane.{HasPoint}
use Rattle.board_model.specs.declared.made.Leg.{Leg}
use Rattle.board_model.specs.declared.made.Leg.TheVariants.{Wire, Via}
use Rattle.board_parts.specs.declared.parts.BoardParts.{BoardParts}
use Rattle.board_parts.specs.Lookup.{kind_of}
use Rattle.board_model.specs.Shapes.{place_of, end_of}
use Rattle.board_model.specs.WellFormed.{IsPlace, IsCorner, IsVia, AreSteps}
use Rattle.route_law.specs.declared.certs.Entry.{Entry}
use Rattle.route_law.specs.Connections.{steps_of_leg, steps_of_legs, IsStraight}
use Rattle.route_law.specs.Ground.{Ground, IsGround, IsWireStrip}
use Rattle.route_law.specs.Walks.{IsWalk, last_node, walk_cost}
use Rattle.path_trace.specs.declared.paths.Path.{Path}
use Rattle.path_trace.specs.Lines.{HasOnlyTurns}
use Rattle.path_trace.specs.Strips.{IsInStripOf, StaysInStrips}

-- the node on a layer at a place
abbrev pub node_at : LayerId → Point → Node
node_at l p = record { x = p.x; y = p.y; layer = l }

-- the place in the row of p and the column of v
abbrev pub bend : Point → Node → Point
bend p v = record { x = v.x; y = p.y }

-- the legs of a path, the first one first
abbrev pub legs_of : Path → List Leg
legs_of p = reverse p.back

-- a leg from u that a board may have: a straight wire, or a via of one of its kinds
abbrev pub MayLead : BoardParts → Node → Leg → Type 0
MayLead b u (Wire v) = IsStraight u v
MayLead b u (Via k v) = IsVia b k u v

-- more, which starts in u, goes over the leg and then over the legs that start where it ends; it keeps
-- their form, and has a turn between any two wires, if they had
pub record IsLedTo (u : Node) (leg : Leg) (legs more : List Leg) : Type 0 where
  pub steps : steps_of_legs u more ≡ steps_of_leg u leg ++ steps_of_legs (end_of leg) legs
  pub ends : last_node u more ≡ last_node (end_of leg) legs
  pub form : (b : BoardParts) → MayLead b u leg → IsCorner b (end_of leg) → AreSteps b (end_of leg) legs → AreSteps b u more
  pub turns : HasOnlyTurns (end_of leg) legs → HasOnlyTurns u more

-- the new path starts in u, and goes over the leg to where the old one starts, and then on as the old one
pub record IsLed (u : Node) (leg : Leg) (old new : Path) : Type 0 where
  pub start : new.start ≡ u
  pub legs : IsLedTo u leg (legs_of old) (legs_of new)

-- the ground is one of the board: it has its layers and its kinds, and its points may be corners
pub record IsBoardGround (b : BoardParts) (g : Ground) : Type 0 where
  pub proper : IsGround g
  pub layers : g.layers ≡ length b.layers
  pub kinds : g.kinds ≡ length b.kinds
  pub kind : (k : KindId) → g.kind k ≡ kind_of b k
  pub places : (p : Point) → HasPoint g.region p → IsPlace p

-- legs from v to a goal that the board may have and the net may walk, at this cost
pub record IsPath (b : BoardParts) (g : Ground) (goal v : Node) (legs : List Leg) (n : ℕ) : Type 0 where
  pub corner : IsCorner b v
  pub form : AreSteps b v legs
  pub turns : HasOnlyTurns v legs
  pub walk : IsWalk g v (steps_of_legs v legs)
  pub stops : last_node v (steps_of_legs v legs) ≡ goal
  pub ends : last_node v legs ≡ goal
  pub cost : walk_cost g (steps_of_legs v legs) ≡ n

-- the new path starts at q on the layer of the old one; within each strip that the net may pass and that
-- has both starts it costs as much more as they are apart, and it stays in such a strip
pub record IsLedFrom (q : Point) (old new : Path) : Type 0 where
  pub start : new.start ≡ node_at old.start.layer q
  pub path : (b : BoardParts) (g : Ground) (t : Rect) (goal : Node) (n : ℕ) → IsBoardGround b g → IsWireStrip g old.start.layer t → HasPoint t (place_of old.start) → HasPoint t q → IsPath b g goal old.start (legs_of old) n → IsPath b g goal new.start (legs_of new) (n + apart q (place_of old.start))
  pub strips : (entries : List Entry) (e : Entry) → Contains entries e → IsInStripOf e old.start → HasPoint e.strip q → StaysInStrips entries old.start (steps_of_legs old.start (legs_of old)) → StaysInStrips entries new.start (steps_of_legs new.start (legs_of new))
