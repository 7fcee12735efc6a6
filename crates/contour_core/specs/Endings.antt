-- How a call of the program ends: its status, its line, and what shows each ending.
use Rattle.std.specs.Prelude.{◌≡◌, ℕ, Bool, ◌++◌, List, Option, codes, decimal}
use Rattle.io_edge.specs.Streams.{AppendsPart, Rose}
use Rattle.io_edge.specs.declared.reading.ReadEnd.{ReadEnd}
use Rattle.io_edge.specs.declared.reading.ReadEnd.TheVariants as read
use Rattle.board_parts.specs.declared.parts.BoardParts.{BoardParts}
use Rattle.board_parts.specs.declared.commands.Command.{Command}
use Rattle.board_model.specs.declared.made.Conn.{Conn}
use Rattle.board_reader.specs.declared.refusals.ReadInput.{ReadInput}
use Rattle.board_reader.specs.declared.refusals.ReadInput.TheVariants as input
use Rattle.board_reader.specs.Kinds.{number_of_kind}
use Rattle.call_words.specs.declared.plans.PlanError.{PlanError}
use Rattle.call_words.specs.declared.plans.PlanError.TheVariants as plan
use Rattle.contour_core.specs.declared.endings.Ending.{Ending}
use Rattle.contour_core.specs.declared.endings.Ending.TheVariants.{BadWords, TooLong, Refused, Wrong, ReadFault, WriteFault, NoMemory}
use Rattle.contour_core.specs.declared.endings.Status.{Status}
use Rattle.contour_core.specs.declared.endings.Status.TheVariants as status
use Rattle.contour_core.specs.Answers.{AnswersFirst, IsCutShort}
use Rattle.contour_core.specs.Inputs.{IfTold, IsTooLong, IsRefusedAs}
use Rattle.contour_core.specs.Sessions.{AnswersPart}

abbrev pub status_of : Ending → Status
status_of BadWords = status.BadWords
status_of TooLong = status.BadInput
status_of (Refused r) = status.BadInput
status_of (Wrong n) = status.Wrong
status_of ReadFault = status.ReadFault
status_of WriteFault = status.WriteFault
status_of NoMemory = status.NoMemory

abbrev pub ending_of_reading : ReadEnd → Ending
ending_of_reading read.TooLong = TooLong
ending_of_reading read.ReadFault = ReadFault
ending_of_reading read.NoMemory = NoMemory

abbrev pub ending_of_input : ReadInput → Ending
ending_of_input (input.Refused r) = Refused r
ending_of_input input.NoMemory = NoMemory

abbrev pub ending_of_plan : PlanError → Ending
ending_of_plan (plan.Refused r) = Refused r
ending_of_plan plan.NoMemory = NoMemory

-- the line that is written on an ending
abbrev pub line_of : Ending → List ℕ
line_of BadWords = codes "usage: contour run [--quiet] / check / upgrade / gen N / demo N\n"
line_of TooLong = codes "too long\n"
line_of (Refused r) = codes "line " ++ decimal r.line ++ codes " kind " ++ decimal (number_of_kind r.kind) ++ codes "\n"
line_of (Wrong n) = codes "wrong reply " ++ decimal n ++ codes "\n"
line_of ReadFault = codes "read fault\n"
line_of WriteFault = codes "write fault\n"
line_of NoMemory = codes "no memory\n"

-- what shows that reading an input ended so, from what the source had left and its counts of faults before and after
abbrev pub EndsReading : Option (List ℕ) → ℕ → ℕ → Ending → Type 0
EndsReading left before after BadWords = ⊥
EndsReading left before after TooLong = IfTold left IsTooLong
EndsReading left before after (Refused r) = IfTold left (IsRefusedAs r)
EndsReading left before after (Wrong n) = ⊥
EndsReading left before after ReadFault = Rose before after
EndsReading left before after WriteFault = ⊥
EndsReading left before after NoMemory = Unit {0}

-- what shows that the writing of a text ended so, from what the sink held and its counts of faults before and after
abbrev pub EndsSending : List ℕ → Option (List ℕ) → Option (List ℕ) → ℕ → ℕ → Ending → Type 0
EndsSending text held holds before after BadWords = ⊥
EndsSending text held holds before after TooLong = ⊥
EndsSending text held holds before after (Refused r) = ⊥
EndsSending text held holds before after (Wrong n) = ⊥
EndsSending text held holds before after ReadFault = ⊥
EndsSending text held holds before after WriteFault = Rose before after × AppendsPart held holds text
EndsSending text held holds before after NoMemory = holds ≡ held

-- what shows that one reply ended so, from what the sink held and its counts of faults before and after
abbrev pub EndsAnswer : BoardParts → Bool → List (List Conn) → Command → Option (List ℕ) → Option (List ℕ) → ℕ → ℕ → Ending → Type 0
EndsAnswer b quiet old c held holds before after BadWords = ⊥
EndsAnswer b quiet old c held holds before after TooLong = ⊥
EndsAnswer b quiet old c held holds before after (Refused r) = ⊥
EndsAnswer b quiet old c held holds before after (Wrong n) = ⊥
EndsAnswer b quiet old c held holds before after ReadFault = ⊥
EndsAnswer b quiet old c held holds before after WriteFault = Rose before after × AnswersPart b quiet old c held holds
EndsAnswer b quiet old c held holds before after NoMemory = holds ≡ held

-- what shows that the replies ended so
abbrev pub EndsAnswers : BoardParts → Bool → List Command → Option (List ℕ) → Option (List ℕ) → ℕ → ℕ → Ending → Type 0
EndsAnswers b quiet cs held holds before after BadWords = ⊥
EndsAnswers b quiet cs held holds before after TooLong = ⊥
EndsAnswers b quiet cs held holds before after (Refused r) = ⊥
EndsAnswers b quiet cs held holds before after (Wrong n) = ⊥
EndsAnswers b quiet cs held holds before after ReadFault = ⊥
EndsAnswers b quiet cs held holds before after WriteFault = Rose before after × IsCutShort b quiet cs held holds
EndsAnswers b quiet cs held holds before after NoMemory = AnswersFirst b quiet cs held holds
