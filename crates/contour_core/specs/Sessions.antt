-- What a session under way has written, command by command.
use Rattle.std.specs.Prelude.{◌≡◌, ℕ, Bool, List, All, Option}
use Rattle.io_edge.specs.Streams.{Appends, AppendsPart}
use Rattle.board_parts.specs.declared.commands.Command.{Command}
use Rattle.board_model.specs.declared.made.Conn.{Conn}
use Rattle.board_parts.specs.declared.parts.BoardParts.{BoardParts}
use Rattle.route_law.specs.declared.replies.Reply.{Reply}
use Rattle.route_law.specs.Regular.{IsRegular}
use Rattle.route_law.specs.Steps.{IsStep, IsRunFrom, nothing_made}
use Rattle.reply_text.specs.Texts.{reply_text, replies_text}

-- the commands led from the state in which nothing is made to this one, and a sink took the text of the replies
pub record IsUnderway (b : BoardParts) (quiet : Bool) (commands : List Command) (lists : List (List Conn)) (before after : Option (List ℕ)) : Type 0 where
  pub replies : List Reply
  pub run : IsRunFrom b (nothing_made b) commands replies lists
  pub regular : All (IsRegular b) replies
  pub written : Appends before after (replies_text b quiet replies)

-- the command led from the old state to the new one with this reply, and a sink took its text
pub record AnswersWith (b : BoardParts) (quiet : Bool) (old : List (List Conn)) (command : Command) (reply : Reply) (new : List (List Conn)) (before after : Option (List ℕ)) : Type 0 where
  pub step : IsStep b old command reply new
  pub regular : IsRegular b reply
  pub written : Appends before after (reply_text b quiet reply)

-- the command led from the old state to the new one with some reply, and a sink took its text
pub record AnswersOne (b : BoardParts) (quiet : Bool) (old : List (List Conn)) (command : Command) (new : List (List Conn)) (before after : Option (List ℕ)) : Type 0 where
  pub reply : Reply
  pub answered : AnswersWith b quiet old command reply new before after

-- the command leads on from the old state, and a sink took a part of the text of the reply
pub record AnswersPart (b : BoardParts) (quiet : Bool) (old : List (List Conn)) (command : Command) (before after : Option (List ℕ)) : Type 0 where
  pub reply : Reply
  pub new : List (List Conn)
  pub step : IsStep b old command reply new
  pub regular : IsRegular b reply
  pub written : AppendsPart before after (reply_text b quiet reply)
