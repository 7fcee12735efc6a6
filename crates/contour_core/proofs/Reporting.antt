-- How the parts of a report come together.
use Rattle.std.proofs.Common.{◌≡◌, ℕ, List, Option, refl, inl, inr}
use Rattle.io_edge.specs.Streams.{Appends}
use Rattle.board_model.specs.declared.made.Conn.{Conn}
use Rattle.board_parts.specs.declared.parts.BoardParts.{BoardParts}
use Rattle.board_parts.specs.Rules.{IsBoard}
use Rattle.board_reader.specs.Reading.{Told}
use Rattle.call_words.specs.Asked.{ReportAsked, Reporting}
use Rattle.call_words.specs.Trials.{IsSoundReport}
use Rattle.call_words.specs.declared.subjects.Subject.{Subject}
use Rattle.net_trace.proofs.Apart.{no_shorts}
use Rattle.net_trace.proofs.Complete.{joined_not_open, run_joined}
use Rattle.replay_check.specs.After.{IsStateAfter}
use Rattle.route_law.specs.declared.replies.Reply.{Reply}
use Rattle.route_law.specs.Kept.{IsState}
use Rattle.contour_core.specs.declared.endings.Ending.{Ending}
use Rattle.contour_core.specs.declared.endings.Ending.TheVariants.{BadWords, TooLong, Refused, Wrong, ReadFault, WriteFault, NoMemory}
use Rattle.contour_core.specs.Causes.{EndsCall}
use Rattle.contour_core.specs.Checked.{EndsCheckedReading, EndsJudging, IsCheckedAs, IsUncheckedAs}
use Rattle.contour_core.specs.Endings.{EndsSending}
use Rattle.contour_core.specs.Inputs.{IfTold, IsTooLong}
use Rattle.contour_core.specs.Reports.{EndsReport, EndsReportText, FindsWrongFor, IsReportOn, IsTextAfter, IsTextOf, IsUnreportedAs, Reports, ReportsInput, ReportsInputInPart}
use Rattle.contour_core.proofs.Ended.{if_told-weaker}

-- the report on the state that replies leave
pub text-after : (b : BoardParts) (replies : List Reply) (subject : Subject) (lists : List (List Conn)) (text : List ℕ) → IsBoard b → IsStateAfter b replies lists → IsState b lists → IsTextOf b lists subject text → IsTextAfter b replies subject text
text-after b replies subject lists text board after kept h = record {
  lists = lists;
  state = after;
  text_of = h;
  opens = λ traced o report listed all. joined_not_open b lists o.net (run_joined b after.commands replies lists o.net board after.run all) traced o report listed refl;
  shorts = λ traced report apart. no_shorts b lists board kept apart traced report;
}

module _ (told : Told) (replies : List Reply) (asked : ReportAsked) where
  -- an ending of the judging, where the report breaks no rule
  pub ends-judged-for : IsSoundReport told.parts asked → (e : Ending) → EndsJudging told replies e → EndsReportText told replies asked e
  ends-judged-for sound BadWords h = h
  ends-judged-for sound TooLong h = h
  ends-judged-for sound (Refused r) h = absurd h
  ends-judged-for sound (Wrong n) h = record { sound = sound; wrong = h }
  ends-judged-for sound ReadFault h = h
  ends-judged-for sound WriteFault h = h
  ends-judged-for sound NoMemory h = h

  -- an ending of the making of the text, before anything was written
  pub ends-unwritten : (held : Option (List ℕ)) (before after : ℕ) (e : Ending) → EndsReportText told replies asked e → EndsReport told replies asked held held before after e
  ends-unwritten held before after BadWords h = h
  ends-unwritten held before after TooLong h = h
  ends-unwritten held before after (Refused r) h = h
  ends-unwritten held before after (Wrong n) h = h
  ends-unwritten held before after ReadFault h = h
  ends-unwritten held before after WriteFault h = absurd h
  ends-unwritten held before after NoMemory h = refl

  -- the text of the report was written
  pub reports : (text : List ℕ) → IsReportOn told replies asked text → (held holds : Option (List ℕ)) → Appends held holds text → Reports told replies asked held holds
  reports text report held holds written = record { text = text; report = report; written = written }

  -- an ending of the writing of the text
  pub ends-written : (text : List ℕ) → IsReportOn told replies asked text → (held holds : Option (List ℕ)) (before after : ℕ) (e : Ending) → EndsSending text held holds before after e → EndsReport told replies asked held holds before after e
  ends-written text report held holds before after BadWords h = h
  ends-written text report held holds before after TooLong h = h
  ends-written text report held holds before after (Refused r) h = absurd h
  ends-written text report held holds before after (Wrong n) h = absurd h
  ends-written text report held holds before after ReadFault h = h
  ends-written text report held holds before after WriteFault h = (h.0, record { text = text; report = report; part = h.1 })
  ends-written text report held holds before after NoMemory h = h

  module _ (left : Option (List ℕ)) (ok : IfTold left (IsCheckedAs told replies)) where
    pub reports-input : (held holds : Option (List ℕ)) → Reports told replies asked held holds → IfTold left (ReportsInput asked held holds)
    reports-input held holds h =
        if_told-weaker left (IsCheckedAs told replies) (ReportsInput asked held holds) (λ bytes checked. record { told = told; replies = replies; checked = checked; reported = h }) ok

    -- an ending of a report after the input was read
    pub ends-reported : (reads reads' : ℕ) (held holds : Option (List ℕ)) (writes writes' : ℕ) (e : Ending) → EndsReport told replies asked held holds writes writes' e → EndsCall (Reporting asked) left reads reads' held holds writes writes' e
    ends-reported reads reads' held holds writes writes' BadWords h = h
    ends-reported reads reads' held holds writes writes' TooLong h = absurd h
    ends-reported reads reads' held holds writes writes' (Refused r) h =
        if_told-weaker left (IsCheckedAs told replies) (IsUnreportedAs asked r) (λ bytes checked. inr (record { told = told; replies = replies; checked = checked; refused = h })) ok
    ends-reported reads reads' held holds writes writes' (Wrong n) h =
        if_told-weaker left (IsCheckedAs told replies) (FindsWrongFor asked n) (λ bytes checked. record { told = told; replies = replies; checked = checked; wrong = h }) ok
    ends-reported reads reads' held holds writes writes' ReadFault h = absurd h
    ends-reported reads reads' held holds writes writes' WriteFault h =
        (h.0, if_told-weaker left (IsCheckedAs told replies) (ReportsInputInPart asked held holds) (λ bytes checked. record { told = told; replies = replies; checked = checked; reported = h.1 }) ok)
    ends-reported reads reads' held holds writes writes' NoMemory h = h

-- an ending of the reading of the input, before anything was written
pub ends-unread : (asked : ReportAsked) (left : Option (List ℕ)) (reads reads' : ℕ) (held : Option (List ℕ)) (writes : ℕ) (e : Ending) → EndsCheckedReading left reads reads' e → EndsCall (Reporting asked) left reads reads' held held writes writes e
ends-unread asked left reads reads' held writes BadWords h = h
ends-unread asked left reads reads' held writes TooLong h = h
ends-unread asked left reads reads' held writes (Refused r) h =
    if_told-weaker left (IsUncheckedAs r) (IsUnreportedAs asked r) (λ bytes unchecked. inl unchecked) h
ends-unread asked left reads reads' held writes (Wrong n) h = absurd h
ends-unread asked left reads reads' held writes ReadFault h = (tt, h)
ends-unread asked left reads reads' held writes WriteFault h = absurd h
ends-unread asked left reads reads' held writes NoMemory h = refl
