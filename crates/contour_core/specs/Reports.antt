-- Reports: what is written of the state that right replies leave.
use Rattle.std.specs.Prelude.{◌≡◌, ◌≢◌, ℕ, ◌⊎◌, List, [], length, Contains, Option}
use Rattle.io_edge.specs.Streams.{Appends, AppendsPart, Rose}
use Rattle.geo_rect.specs.declared.ids.LayerId.{LayerId}
use Rattle.geo_rect.specs.declared.ids.NetId.{NetId}
use Rattle.geo_rect.specs.declared.shapes.Rect.{Rect}
use Rattle.board_model.specs.declared.made.Conn.{Conn}
use Rattle.board_model.specs.Made.{conns_of}
use Rattle.board_model.specs.Shapes.{state_shapes}
use Rattle.board_parts.specs.declared.parts.BoardParts.{BoardParts}
use Rattle.board_reader.specs.Reading.{Told}
use Rattle.board_reader.specs.declared.refusals.Refusal.{Refusal}
use Rattle.board_reader.specs.declared.refusals.RefusalKind.{RefusalKind}
use Rattle.call_words.specs.Asked.{ReportAsked}
use Rattle.call_words.specs.Trials.{IsReportFault, IsSoundReport, IsSubject}
use Rattle.call_words.specs.declared.subjects.Subject.{Subject}
use Rattle.call_words.specs.declared.subjects.Subject.TheVariants.{Fill, Gerber, Trace}
use Rattle.gerber_out.specs.Layers.{areas_text, wanted}
use Rattle.net_trace.specs.declared.traced.OpenNet.{OpenNet}
use Rattle.net_trace.specs.declared.traced.Traced.{Traced}
use Rattle.net_trace.specs.Joined.{KeepPinsApart}
use Rattle.net_trace.specs.Report.{IsReport}
use Rattle.net_trace.specs.Texts.{IsTraceText}
use Rattle.replay_check.specs.After.{IsStateAfter}
use Rattle.route_law.specs.declared.replies.Reply.{Reply}
use Rattle.route_law.specs.Routing.{conns_needed}
use Rattle.route_law.specs.Steps.{IsRun, IsFirstWrong}
use Rattle.zone_fill.specs.Pour.{IsPour}
use Rattle.zone_fill.specs.Texts.{fill_text}
use Rattle.contour_core.specs.declared.endings.Ending.{Ending}
use Rattle.contour_core.specs.declared.endings.Ending.TheVariants.{BadWords, TooLong, Refused, Wrong, ReadFault, WriteFault, NoMemory}
use Rattle.contour_core.specs.Checked.{FindsWrong, IsCheckedAs, IsUnchecked, IsUncheckedAs}
use Rattle.contour_core.specs.Inputs.{IfTold, IsTooLong}

-- the text tells the pour of a net in a zone of a layer among the shapes of the state
pub record TellsPour (b : BoardParts) (lists : List (List Conn)) (n : NetId) (l : LayerId) (zone : Rect) (text : List ℕ) : Type 0 where
  pub boxes : List Rect
  pub pour : IsPour b (state_shapes b lists) n l zone boxes
  pub spelled : text ≡ fill_text b n l boxes

-- the text is the report of this sort on the state
abbrev pub IsTextOf : BoardParts → List (List Conn) → Subject → List ℕ → Type 0
IsTextOf b lists (Fill n l zone) text = TellsPour b lists n l zone text
IsTextOf b lists (Gerber l) text = text ≡ areas_text (wanted l (state_shapes b lists))
IsTextOf b lists Trace text = IsTraceText b lists text

-- the text is the report of this sort on the state that the replies leave; of this state no report of what is joined
-- tells a net as open that lacks no connection, and where no pins of different nets touch, none tells nets as shorted
pub record IsTextAfter (b : BoardParts) (replies : List Reply) (subject : Subject) (text : List ℕ) : Type 0 where
  pub lists : List (List Conn)
  pub state : IsStateAfter b replies lists
  pub text_of : IsTextOf b lists subject text
  pub opens : (traced : Traced) (o : OpenNet) → IsReport b lists traced → Contains traced.opens o → length (conns_of lists o.net) ≢ conns_needed b o.net
  pub shorts : (traced : Traced) → IsReport b lists traced → KeepPinsApart b → traced.shorts ≡ []

-- the replies are those of a run over the commands, the names and numbers of the report are those of the board, and the
-- text is that report on the state that the replies leave
pub record IsReportOn (told : Told) (replies : List Reply) (asked : ReportAsked) (text : List ℕ) : Type 0 where
  pub run : IsRun told.parts told.commands replies
  pub sound : IsSoundReport told.parts asked
  pub subject : Subject
  pub names : IsSubject told.parts asked subject
  pub tells : IsTextAfter told.parts replies subject text

-- the report breaks a rule on the board, and the refusal names no line and the kind of the first such rule
pub record IsRefusedFor (b : BoardParts) (asked : ReportAsked) (refusal : Refusal) : Type 0 where
  pub line : refusal.line ≡ 0
  pub fault : IsReportFault b asked refusal.kind

-- the report breaks no rule, and reply number n is the first that is wrong
pub record AreWrongFor (told : Told) (replies : List Reply) (asked : ReportAsked) (n : ℕ) : Type 0 where
  pub sound : IsSoundReport told.parts asked
  pub wrong : IsFirstWrong told.parts told.commands replies n

-- what shows that the making of a report's text ended so
abbrev pub EndsReportText : Told → List Reply → ReportAsked → Ending → Type 0
EndsReportText told replies asked BadWords = ⊥
EndsReportText told replies asked TooLong = ⊥
EndsReportText told replies asked (Refused r) = IsRefusedFor told.parts asked r
EndsReportText told replies asked (Wrong n) = AreWrongFor told replies asked n
EndsReportText told replies asked ReadFault = ⊥
EndsReportText told replies asked WriteFault = ⊥
EndsReportText told replies asked NoMemory = Unit {0}

-- a sink took the text of a report, or a part of it
pub record Reports (told : Told) (replies : List Reply) (asked : ReportAsked) (held holds : Option (List ℕ)) : Type 0 where
  pub text : List ℕ
  pub report : IsReportOn told replies asked text
  pub written : Appends held holds text

pub record ReportsInPart (told : Told) (replies : List Reply) (asked : ReportAsked) (held holds : Option (List ℕ)) : Type 0 where
  pub text : List ℕ
  pub report : IsReportOn told replies asked text
  pub part : AppendsPart held holds text

-- what shows that a report on an input ended so, from what the sink held and its counts of faults before and after
abbrev pub EndsReport : Told → List Reply → ReportAsked → Option (List ℕ) → Option (List ℕ) → ℕ → ℕ → Ending → Type 0
EndsReport told replies asked held holds before after BadWords = ⊥
EndsReport told replies asked held holds before after TooLong = ⊥
EndsReport told replies asked held holds before after (Refused r) = IsRefusedFor told.parts asked r
EndsReport told replies asked held holds before after (Wrong n) = AreWrongFor told replies asked n
EndsReport told replies asked held holds before after ReadFault = ⊥
EndsReport told replies asked held holds before after WriteFault = Rose before after × ReportsInPart told replies asked held holds
EndsReport told replies asked held holds before after NoMemory = holds ≡ held

-- the bytes are a board text and replies, and a sink took the report on them and nothing else
pub record ReportsInput (asked : ReportAsked) (held holds : Option (List ℕ)) (bytes : List ℕ) : Type 0 where
  pub told : Told
  pub replies : List Reply
  pub checked : IsCheckedAs told replies bytes
  pub reported : Reports told replies asked held holds

-- the bytes are a board text and replies, and a sink took a part of the report on them
pub record ReportsInputInPart (asked : ReportAsked) (held holds : Option (List ℕ)) (bytes : List ℕ) : Type 0 where
  pub told : Told
  pub replies : List Reply
  pub checked : IsCheckedAs told replies bytes
  pub reported : ReportsInPart told replies asked held holds

-- the bytes are a board text and replies, and the report breaks a rule on the board
pub record IsUnsoundAs (asked : ReportAsked) (refusal : Refusal) (bytes : List ℕ) : Type 0 where
  pub told : Told
  pub replies : List Reply
  pub checked : IsCheckedAs told replies bytes
  pub refused : IsRefusedFor told.parts asked refusal

-- the bytes are refused, or the report is
abbrev pub IsUnreportedAs : ReportAsked → Refusal → List ℕ → Type 0
IsUnreportedAs asked refusal bytes = IsUncheckedAs refusal bytes ⊎ IsUnsoundAs asked refusal bytes

abbrev pub IsUnreported : ReportAsked → List ℕ → Type 0
IsUnreported asked bytes = IsTooLong bytes ⊎ ((refusal : Refusal) × IsUnreportedAs asked refusal bytes)

-- the bytes are a board text and replies, and the report breaks no rule on the board
pub record IsReportable (asked : ReportAsked) (bytes : List ℕ) : Type 0 where
  pub told : Told
  pub replies : List Reply
  pub checked : IsCheckedAs told replies bytes
  pub sound : IsSoundReport told.parts asked

-- the bytes are a board text and replies, the report breaks no rule on the board, and reply number n is the first that is
-- wrong
pub record FindsWrongFor (asked : ReportAsked) (n : ℕ) (bytes : List ℕ) : Type 0 where
  pub told : Told
  pub replies : List Reply
  pub checked : IsCheckedAs told replies bytes
  pub wrong : AreWrongFor told replies asked n

-- what an ending says of the input of a report is so
abbrev pub IsOfReport : ReportAsked → Option (List ℕ) → Ending → Type 0
IsOfReport asked left BadWords = Unit {0}
IsOfReport asked left TooLong = IfTold left IsTooLong
IsOfReport asked left (Refused r) = IfTold left (IsUnreportedAs asked r)
IsOfReport asked left (Wrong n) = IfTold left (FindsWrongFor asked n)
IsOfReport asked left ReadFault = Unit {0}
IsOfReport asked left WriteFault = Unit {0}
IsOfReport asked left NoMemory = Unit {0}
