-- What a demonstration writes: the replies to the commands of a generated board text, and then a summary of them.
use Rattle.std.specs.Prelude.{◌≡◌, ℕ, true, ◌⊎◌, List, [], ◌∷◌, ◌++◌, Option, Ok}
use Rattle.io_edge.specs.Streams.{Appends, AppendsPart, Rose}
use Rattle.board_gen.specs.Generated.{generated}
use Rattle.board_parts.specs.declared.commands.Command.{Command}
use Rattle.board_parts.specs.declared.commands.Command.TheVariants as command
use Rattle.board_model.specs.declared.made.Conn.{Conn}
use Rattle.board_parts.specs.declared.parts.BoardParts.{BoardParts}
use Rattle.board_reader.specs.Reading.{reading, Told}
use Rattle.demo_text.specs.Summary.{summary}
use Rattle.reply_text.specs.Texts.{replies_text}
use Rattle.route_law.specs.declared.replies.Reply.{Reply}
use Rattle.contour_core.specs.declared.endings.Ending.{Ending}
use Rattle.contour_core.specs.declared.endings.Ending.TheVariants.{BadWords, TooLong, Refused, Wrong, ReadFault, WriteFault, NoMemory}
use Rattle.contour_core.specs.Answers.{AreReplies, AnswersFirst, IsCutShort}
use Rattle.contour_core.specs.Sessions.{AnswersOne, AnswersPart, AnswersWith}

-- the generated text of n nets is a board text, and the property holds of its board and its commands
pub record IsOfGenerated (n : ℕ) (Holds : BoardParts → List Command → Type 0) : Type 0 where
  pub told : Told
  pub read : reading (generated n) ≡ Ok told
  pub holds : Holds told.parts told.commands

-- a sink took the text of two replies to the commands, without certificates, then the summary of a
-- demonstration of n nets, and nothing else
pub record SumsUp (b : BoardParts) (commands : List Command) (n : ℕ) (before after : Option (List ℕ)) : Type 0 where
  pub first : Reply
  pub second : Reply
  pub are_replies : AreReplies b commands (first ∷ second ∷ [])
  pub written : Appends before after (replies_text b true (first ∷ second ∷ []) ++ summary n first second)

-- a sink took the text of the two replies, then a part of the summary
pub record CutsSummary (b : BoardParts) (commands : List Command) (n : ℕ) (before after : Option (List ℕ)) : Type 0 where
  pub first : Reply
  pub second : Reply
  pub are_replies : AreReplies b commands (first ∷ second ∷ [])
  pub between : Option (List ℕ)
  pub written : Appends before between (replies_text b true (first ∷ second ∷ []))
  pub part : AppendsPart between after (summary n first second)

-- a sink took whole replies to the first commands, then a part of the next, or of the summary
abbrev pub SumsUpInPart : BoardParts → List Command → ℕ → Option (List ℕ) → Option (List ℕ) → Type 0
SumsUpInPart b commands n before after = IsCutShort b true commands before after ⊎ CutsSummary b commands n before after

-- what shows that the replies to these commands and their summary ended so, from what the sink held and its counts of
-- faults before and after
abbrev pub EndsSummary : BoardParts → List Command → ℕ → Option (List ℕ) → Option (List ℕ) → ℕ → ℕ → Ending → Type 0
EndsSummary b cs n held holds before after BadWords = ⊥
EndsSummary b cs n held holds before after TooLong = ⊥
EndsSummary b cs n held holds before after (Refused r) = ⊥
EndsSummary b cs n held holds before after (Wrong k) = ⊥
EndsSummary b cs n held holds before after ReadFault = ⊥
EndsSummary b cs n held holds before after WriteFault = Rose before after × SumsUpInPart b cs n held holds
EndsSummary b cs n held holds before after NoMemory = AnswersFirst b true cs held holds

-- what shows that a demonstration ended so
abbrev pub EndsDemo : ℕ → Option (List ℕ) → Option (List ℕ) → ℕ → ℕ → Ending → Type 0
EndsDemo n held holds before after BadWords = ⊥
EndsDemo n held holds before after TooLong = ⊥
EndsDemo n held holds before after (Refused r) = ⊥
EndsDemo n held holds before after (Wrong k) = ⊥
EndsDemo n held holds before after ReadFault = ⊥
EndsDemo n held holds before after WriteFault = Rose before after × IsOfGenerated n (λ b cs. SumsUpInPart b cs n held holds)
EndsDemo n held holds before after NoMemory = IsOfGenerated n (λ b cs. AnswersFirst b true cs held holds)

-- in a state where `all` had this reply, `rules` was answered and a sink took its text, then the summary of both
pub record Finishes (b : BoardParts) (lists : List (List Conn)) (n : ℕ) (first : Reply) (before after : Option (List ℕ)) : Type 0 where
  pub second : Reply
  pub new : List (List Conn)
  pub between : Option (List ℕ)
  pub answered : AnswersWith b true lists command.Rules second new before between
  pub summed : Appends between after (summary n first second)

-- the same, but a sink took only a part of the summary
pub record FinishesInPart (b : BoardParts) (lists : List (List Conn)) (n : ℕ) (first : Reply) (before after : Option (List ℕ)) : Type 0 where
  pub second : Reply
  pub new : List (List Conn)
  pub between : Option (List ℕ)
  pub answered : AnswersWith b true lists command.Rules second new before between
  pub part : AppendsPart between after (summary n first second)

-- in a state where `all` had this reply, `rules` was answered, or nothing was written
abbrev pub FinishesFirst : BoardParts → List (List Conn) → Option (List ℕ) → Option (List ℕ) → Type 0
FinishesFirst b lists before after = (after ≡ before) ⊎ ((new : List (List Conn)) × AnswersOne b true lists command.Rules new before after)

-- what shows that the reply to `rules` and the summary ended so
abbrev pub EndsFinish : BoardParts → List (List Conn) → ℕ → Reply → Option (List ℕ) → Option (List ℕ) → ℕ → ℕ → Ending → Type 0
EndsFinish b lists n first held holds before after BadWords = ⊥
EndsFinish b lists n first held holds before after TooLong = ⊥
EndsFinish b lists n first held holds before after (Refused r) = ⊥
EndsFinish b lists n first held holds before after (Wrong k) = ⊥
EndsFinish b lists n first held holds before after ReadFault = ⊥
EndsFinish b lists n first held holds before after WriteFault =
    Rose before after × (AnswersPart b true lists command.Rules held holds ⊎ FinishesInPart b lists n first held holds)
EndsFinish b lists n first held holds before after NoMemory = FinishesFirst b lists held holds
