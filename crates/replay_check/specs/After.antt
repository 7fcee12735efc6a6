-- The state that the replies of a run leave.
use Rattle.std.specs.Prelude.{List, All}
use Rattle.board_parts.specs.Commands.{IsCommandOf}
use Rattle.board_parts.specs.declared.commands.Command.{Command}
use Rattle.board_parts.specs.declared.parts.BoardParts.{BoardParts}
use Rattle.board_model.specs.declared.made.Conn.{Conn}
use Rattle.route_law.specs.declared.replies.Reply.{Reply}
use Rattle.route_law.specs.Steps.{IsRun, IsRunFrom, nothing_made}

-- the replies are those of a run over some commands of the board
pub record AreOfARun (b : BoardParts) (replies : List Reply) : Type 0 where
  pub commands : List Command
  pub known : All (IsCommandOf b) commands
  pub run : IsRun b commands replies

-- over some commands of the board, steps with these replies lead from nothing made to this state
pub record IsStateAfter (b : BoardParts) (replies : List Reply) (lists : List (List Conn)) : Type 0 where
  pub commands : List Command
  pub known : All (IsCommandOf b) commands
  pub run : IsRunFrom b (nothing_made b) commands replies lists
