-- How far a run has come.
use Rattle.std.specs.Prelude.{ℕ, ◌≤◌, List, length, take}
use Rattle.board_parts.specs.declared.commands.Command.{Command}
use Rattle.board_model.specs.declared.made.Conn.{Conn}
use Rattle.board_parts.specs.declared.parts.BoardParts.{BoardParts}
use Rattle.route_law.specs.declared.replies.Reply.{Reply}
use Rattle.route_law.specs.Steps.{IsRunFrom, nothing_made}

-- the first i commands and replies lead from nothing made to this state
pub record HasRun (b : BoardParts) (commands : List Command) (replies : List Reply) (i : ℕ) (lists : List (List Conn)) : Type 0 where
  pub some_commands : i ≤ length commands
  pub some_replies : i ≤ length replies
  pub run : IsRunFrom b (nothing_made b) (take i commands) (take i replies) lists
