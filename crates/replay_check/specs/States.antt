-- What holds of a state under way: what the replies so far have made, and planes that stand for it.
use Rattle.std.specs.Prelude.{◌≡◌, ◌<◌, ℕ, List, length, All, Option, Some, None}
use Rattle.board_model.specs.declared.made.Conn.{Conn}
use Rattle.board_model.specs.declared.made.Leg.{Leg}
use Rattle.board_parts.specs.declared.parts.BoardParts.{BoardParts}
use Rattle.board_model.specs.Shapes.{end_of, state_shapes}
use Rattle.board_model.specs.WellFormed.{AreWellFormed}
use Rattle.plane_set.specs.Standing.{PlaneTable, StandsFor}
use Rattle.route_law.specs.declared.replies.Fail.{Fail}
use Rattle.strip_moves.specs.Grounds.{IsBoardNode}

-- each corner of the connection is a node of the board
pub record IsBoardConn (b : BoardParts) (c : Conn) : Type 0 where
  pub start : IsBoardNode b c.start
  pub ends : All (λ (leg : Leg). IsBoardNode b (end_of leg)) c.legs

-- a list for each net, of well formed connections whose corners are on the board, and planes that stand for
-- the shapes of the state
pub record IsUnderWay (b : BoardParts) (lists : List (List Conn)) (set : PlaneTable) : Type 0 where
  pub nets : length lists ≡ length b.net_names
  pub well_formed : AreWellFormed b lists
  pub on_board : All (All (IsBoardConn b)) lists
  pub planes : StandsFor b (state_shapes b lists) set

-- as many connections were made as were missing, or fewer where the next one has no route
abbrev pub AreCounted : ℕ → ℕ → Option Fail → Type 0
AreCounted missing made None = made ≡ missing
AreCounted missing made (Some f) = made < missing
