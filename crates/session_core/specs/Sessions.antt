-- What a session holds.
use Rattle.std.specs.Prelude.{◌≡◌, List, All, Option, Some, None}
use Rattle.board_model.specs.declared.made.Conn.{Conn}
use Rattle.board_parts.specs.declared.parts.BoardParts.{BoardParts}
use Rattle.board_model.specs.Boxes.{conn_boxes}
use Rattle.board_parts.specs.Rules.{IsBoard}
use Rattle.board_model.specs.Shapes.{state_shapes}
use Rattle.plane_set.specs.Standing.{PlaneTable, StandsFor}
use Rattle.route_law.specs.Kept.{IsState}
use Rattle.route_law.specs.Steps.{nothing_made}
use Rattle.strip_moves.specs.Boxes.{IsBoardBox}

-- a board, the connections that are made on it, a list for each net, and planes, where a command has needed them
pub record Sitting : Type 0 where
  pub parts : BoardParts
  pub lists : List (List Conn)
  pub planes : Option PlaneTable

-- each box of a connection, from which a next one may start, lies on the board
abbrev pub IsWithin : BoardParts → Conn → Type 0
IsWithin b c = All (IsBoardBox b) (conn_boxes b c)

-- the board keeps the rules of the board text, what is made is a state of it and lies on it, and the planes
-- stand for both
pub record IsSitting (b : BoardParts) (lists : List (List Conn)) (set : PlaneTable) : Type 0 where
  pub board : IsBoard b
  pub state : IsState b lists
  pub within : All (All (IsWithin b)) lists
  pub stands : StandsFor b (state_shapes b lists) set

-- the planes stand for the shapes of this state; where there are none yet, nothing is made
abbrev pub AreUpToDate : BoardParts → List (List Conn) → Option PlaneTable → Type 0
AreUpToDate b lists None = lists ≡ nothing_made b
AreUpToDate b lists (Some set) = StandsFor b (state_shapes b lists) set

-- the board keeps the rules of the board text, what is made is a state of it and lies on it, and the planes
-- stand for both, where there are planes already
pub record IsSession (b : BoardParts) (lists : List (List Conn)) (held : Option PlaneTable) : Type 0 where
  pub board : IsBoard b
  pub state : IsState b lists
  pub within : All (All (IsWithin b)) lists
  pub planes : AreUpToDate b lists held
