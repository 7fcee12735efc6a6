-- Endings of a part of a call as endings of the call.
use Rattle.std.proofs.Common.{◌≡◌, ℕ, Bool, List, Option, Some, None, inr}
use Rattle.board_parts.specs.declared.commands.Command.{Command}
use Rattle.board_parts.specs.declared.parts.BoardParts.{BoardParts}
use Rattle.board_reader.specs.Reading.{Told}
use Rattle.call_words.specs.Asked.{Run}
use Rattle.contour_core.specs.declared.endings.Ending.{Ending}
use Rattle.contour_core.specs.declared.endings.Ending.TheVariants.{BadWords, TooLong, Refused, Wrong, ReadFault, WriteFault, NoMemory}
use Rattle.contour_core.specs.Answers.{AnswersAll}
use Rattle.contour_core.specs.Causes.{AnswersInput, AnswersNoneOrFirst, CutsInputShort, EndsCall, IsBeforeReplies}
use Rattle.contour_core.specs.Endings.{EndsAnswers}
use Rattle.contour_core.specs.Inputs.{IfTold, IsAcceptedAs}

pub if_told-weaker : (left : Option (List ℕ)) (P Q : List ℕ → Type 0) → ((bytes : List ℕ) → P bytes → Q bytes) → IfTold left P → IfTold left Q
if_told-weaker None P Q f h = tt
if_told-weaker (Some bytes) P Q f h = f bytes h

module _ (quiet : Bool) (left : Option (List ℕ)) (reads reads' : ℕ) where
  -- an ending of the replies to an accepted input
  pub ends_replies : (held holds : Option (List ℕ)) (writes writes' : ℕ) (told : Told) → IfTold left (IsAcceptedAs told) → (e : Ending) → EndsAnswers told.parts quiet told.commands held holds writes writes' e → EndsCall (Run quiet) left reads reads' held holds writes writes' e
  ends_replies held holds writes writes' told ok BadWords h = h
  ends_replies held holds writes writes' told ok TooLong h = absurd h
  ends_replies held holds writes writes' told ok (Refused r) h = absurd h
  ends_replies held holds writes writes' told ok (Wrong n) h = absurd h
  ends_replies held holds writes writes' told ok ReadFault h = absurd h
  ends_replies held holds writes writes' told ok WriteFault h =
      (h.0, if_told-weaker left (IsAcceptedAs told) (CutsInputShort quiet held holds) (λ bytes accepted. record { told = told; accepted = accepted; answered = h.1 }) ok)
  ends_replies held holds writes writes' told ok NoMemory h =
      if_told-weaker left (IsAcceptedAs told) (AnswersNoneOrFirst quiet held holds) (λ bytes accepted. inr (record { told = told; accepted = accepted; answered = h })) ok

-- the replies to an accepted input
pub answers_input : (quiet : Bool) (left : Option (List ℕ)) (held holds : Option (List ℕ)) (told : Told) → IfTold left (IsAcceptedAs told) → AnswersAll told.parts quiet told.commands held holds → IfTold left (AnswersInput quiet held holds)
answers_input quiet left held holds told ok all =
    if_told-weaker left (IsAcceptedAs told) (AnswersInput quiet held holds) (λ bytes accepted. record { told = told; accepted = accepted; answered = all }) ok

-- what ends the replies came after the first was begun
pub replies_begun : (b : BoardParts) (quiet : Bool) (cs : List Command) (held holds : Option (List ℕ)) (writes writes' : ℕ) (e : Ending) → EndsAnswers b quiet cs held holds writes writes' e → IsBeforeReplies e → ⊥
replies_begun b quiet cs held holds writes writes' BadWords h before = h
replies_begun b quiet cs held holds writes writes' TooLong h before = h
replies_begun b quiet cs held holds writes writes' (Refused r) h before = h
replies_begun b quiet cs held holds writes writes' (Wrong n) h before = h
replies_begun b quiet cs held holds writes writes' ReadFault h before = h
replies_begun b quiet cs held holds writes writes' WriteFault h before = before
replies_begun b quiet cs held holds writes writes' NoMemory h before = before
