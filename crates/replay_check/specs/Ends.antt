-- What the end of a replay says of the replies.
use Rattle.std.specs.Prelude.{List}
use Rattle.board_parts.specs.declared.commands.Command.{Command}
use Rattle.board_parts.specs.declared.parts.BoardParts.{BoardParts}
use Rattle.route_law.specs.declared.replies.Reply.{Reply}
use Rattle.route_law.specs.Steps.{IsRun, IsFirstWrong}
use Rattle.replay_check.specs.declared.ends.ReplayEnd.{ReplayEnd}
use Rattle.replay_check.specs.declared.ends.ReplayEnd.TheVariants.{Yes, No}

-- what the end says: that the replies are those of a run over the commands, or which is the first wrong one
abbrev pub IsEndOf : BoardParts → List Command → List Reply → ReplayEnd → Type 0
IsEndOf b commands replies Yes = IsRun b commands replies
IsEndOf b commands replies (No n) = IsFirstWrong b commands replies n
