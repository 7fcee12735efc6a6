-- The replies to commands, as the bytes that are written.
use Rattle.std.specs.Prelude.{◌≡◌, ℕ, ◌+◌, Bool, List, [], ◌∷◌, ◌++◌, length, take, All, Option}
use Rattle.io_edge.specs.Streams.{Appends, AppendsPart}
use Rattle.board_parts.specs.declared.commands.Command.{Command}
use Rattle.board_model.specs.declared.made.Conn.{Conn}
use Rattle.board_parts.specs.declared.parts.BoardParts.{BoardParts}
use Rattle.route_law.specs.declared.replies.Reply.{Reply}
use Rattle.route_law.specs.Kept.{IsKept}
use Rattle.route_law.specs.Regular.{IsRegular}
use Rattle.route_law.specs.Steps.{IsStep, IsRun, IsRunFrom, nothing_made}
use Rattle.reply_text.specs.Texts.{reply_text, replies_text}

-- in each state that the replies lead through, what is made keeps the outline and the gaps
abbrev pub KeepsTheRules : BoardParts → List Command → List Reply → Type 0
KeepsTheRules b cs rs =
    (n : ℕ) (lists : List (List Conn)) → IsRunFrom b (nothing_made b) (take n cs) (take n rs) lists → IsKept b lists

-- the replies are those of a run over the commands, one for each, which keeps the rules throughout; and each
-- can be read back from its text
pub record AreReplies (b : BoardParts) (cs : List Command) (rs : List Reply) : Type 0 where
  pub run : IsRun b cs rs
  pub rules : KeepsTheRules b cs rs
  pub regular : All (IsRegular b) rs

-- a sink took the text of replies to the commands and nothing else
pub record AnswersAll (b : BoardParts) (quiet : Bool) (commands : List Command) (before after : Option (List ℕ)) : Type 0 where
  pub replies : List Reply
  pub are_replies : AreReplies b commands replies
  pub written : Appends before after (replies_text b quiet replies)

-- a sink took whole replies to the first commands and nothing else
pub record AnswersFirst (b : BoardParts) (quiet : Bool) (commands : List Command) (before after : Option (List ℕ)) : Type 0 where
  pub count : ℕ
  pub answered : AnswersAll b quiet (take count commands) before after

-- a sink took whole replies to the first commands, then a part of the reply to the next
pub record IsCutShort (b : BoardParts) (quiet : Bool) (commands : List Command) (before after : Option (List ℕ)) : Type 0 where
  pub whole : List Reply
  pub next : Reply
  pub are_replies : AreReplies b (take (length whole + 1) commands) (whole ++ next ∷ [])
  pub between : Option (List ℕ)
  pub written : Appends before between (replies_text b quiet whole)
  pub part : AppendsPart between after (reply_text b quiet next)
