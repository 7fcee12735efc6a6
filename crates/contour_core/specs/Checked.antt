-- An input with replies to be checked: a board text, a line `replies`, and the text of replies.
use Rattle.std.specs.Prelude.{◌≡◌, ℕ, ◌+◌, ◌≤◌, ◌⊎◌, List, length, take, drop, Option, Some, None, Ok, Err}
use Rattle.io_edge.specs.Streams.{Appends, AppendsPart, Rose}
use Rattle.board_parts.specs.declared.parts.BoardParts.{BoardParts}
use Rattle.line_words.specs.Lines.{lines}
use Rattle.board_reader.specs.Reading.{reading, Told}
use Rattle.board_reader.specs.Splits.{split_of}
use Rattle.board_reader.specs.declared.refusals.Refusal.{Refusal}
use Rattle.board_reader.specs.declared.refusals.RefusalKind.{RefusalKind}
use Rattle.board_reader.specs.declared.refusals.RefusalKind.TheVariants.{NoEnd, BadReply}
use Rattle.board_reader.specs.declared.splits.Split.{Split}
use Rattle.reply_reader.specs.Readings.{IsReadingOf, IsRefusedLine}
use Rattle.route_law.specs.declared.replies.Reply.{Reply}
use Rattle.route_law.specs.Steps.{IsRun, IsFirstWrong}
use Rattle.contour_core.specs.declared.endings.Ending.{Ending}
use Rattle.contour_core.specs.declared.endings.Ending.TheVariants.{BadWords, TooLong, Refused, Wrong, ReadFault, WriteFault, NoMemory}
use Rattle.contour_core.specs.Inputs.{IfTold, IsTooLong}
use Rattle.contour_core.specs.Texts.{right_text}

-- the bytes are cut at their line `replies`: before it stands a board text, and after it the text of these replies
pub record IsCheckedAs (told : Told) (replies : List Reply) (bytes : List ℕ) : Type 0 where
  pub short : length bytes ≤ 268435456
  pub split : Split
  pub is_split : split_of bytes ≡ Some split
  pub board : reading (take split.text_end bytes) ≡ Ok told
  pub read : IsReadingOf told.parts (drop split.replies_start bytes) replies

-- what stands before the line `replies`, or the whole where there is no such line, is no board text
pub record HasNoBoard (text : List ℕ) (refusal : Refusal) : Type 0 where
  pub read : reading text ≡ Err refusal

-- the whole is a board text, and the line after its last one, which would be `replies`, is missing
pub record HasNoReplies (text : List ℕ) (refusal : Refusal) : Type 0 where
  pub told : Told
  pub read : reading text ≡ Ok told
  pub line : refusal.line ≡ length (lines text) + 1
  pub kind : refusal.kind ≡ NoEnd

-- a board text stands before the line `replies`, and this line after it is the first that no text of replies has there
pub record HasBadReply (bytes : List ℕ) (split : Split) (refusal : Refusal) : Type 0 where
  pub told : Told
  pub read : reading (take split.text_end bytes) ≡ Ok told
  pub number : ℕ
  pub refused : IsRefusedLine told.parts (drop split.replies_start bytes) number
  pub line : refusal.line ≡ split.lines + number
  pub kind : refusal.kind ≡ BadReply

-- what is refused of bytes that are cut so, or not at all
abbrev pub IsRefusedPart : List ℕ → Refusal → Option Split → Type 0
IsRefusedPart bytes refusal None = HasNoBoard bytes refusal ⊎ HasNoReplies bytes refusal
IsRefusedPart bytes refusal (Some split) = HasNoBoard (take split.text_end bytes) refusal ⊎ HasBadReply bytes split refusal

-- the bytes are no more than the program reads, and not a board text and a text of replies
pub record IsUncheckedAs (refusal : Refusal) (bytes : List ℕ) : Type 0 where
  pub short : length bytes ≤ 268435456
  pub part : IsRefusedPart bytes refusal (split_of bytes)

abbrev pub IsChecked : List ℕ → Type 0
IsChecked bytes = (told : Told) × (replies : List Reply) × IsCheckedAs told replies bytes

abbrev pub IsUnchecked : List ℕ → Type 0
IsUnchecked bytes = IsTooLong bytes ⊎ ((refusal : Refusal) × IsUncheckedAs refusal bytes)

-- the replies are those of a run over the commands
pub record IsRight (bytes : List ℕ) (replies : List Reply) : Type 0 where
  pub told : Told
  pub checked : IsCheckedAs told replies bytes
  pub run : IsRun told.parts told.commands replies

-- the replies are those of a run, and a sink took the line that says how many they are
pub record FindsRight (held holds : Option (List ℕ)) (bytes : List ℕ) : Type 0 where
  pub replies : List Reply
  pub right : IsRight bytes replies
  pub written : Appends held holds (right_text (length replies))

-- the replies are those of a run, and a sink took a part of the line that says how many they are
pub record FindsRightInPart (held holds : Option (List ℕ)) (bytes : List ℕ) : Type 0 where
  pub replies : List Reply
  pub right : IsRight bytes replies
  pub written : AppendsPart held holds (right_text (length replies))

-- reply number n is the first that is wrong
pub record FindsWrong (n : ℕ) (bytes : List ℕ) : Type 0 where
  pub told : Told
  pub replies : List Reply
  pub checked : IsCheckedAs told replies bytes
  pub wrong : IsFirstWrong told.parts told.commands replies n

-- the bytes are no text of replies, and the refusal names their first bad line after so many lines
pub record AreUnread (b : BoardParts) (bytes : List ℕ) (before : ℕ) (refusal : Refusal) : Type 0 where
  pub number : ℕ
  pub refused : IsRefusedLine b bytes number
  pub line : refusal.line ≡ before + number
  pub kind : refusal.kind ≡ BadReply

-- what shows that the reading of replies behind so many lines ended so
abbrev pub EndsReplies : BoardParts → List ℕ → ℕ → Ending → Type 0
EndsReplies b bytes before BadWords = ⊥
EndsReplies b bytes before TooLong = ⊥
EndsReplies b bytes before (Refused r) = AreUnread b bytes before r
EndsReplies b bytes before (Wrong n) = ⊥
EndsReplies b bytes before ReadFault = ⊥
EndsReplies b bytes before WriteFault = ⊥
EndsReplies b bytes before NoMemory = Unit {0}

-- what shows that the checking of an input without a line `replies` ended so
abbrev pub EndsUnsplit : List ℕ → Ending → Type 0
EndsUnsplit bytes BadWords = ⊥
EndsUnsplit bytes TooLong = ⊥
EndsUnsplit bytes (Refused r) = HasNoBoard bytes r ⊎ HasNoReplies bytes r
EndsUnsplit bytes (Wrong n) = ⊥
EndsUnsplit bytes ReadFault = ⊥
EndsUnsplit bytes WriteFault = ⊥
EndsUnsplit bytes NoMemory = Unit {0}

-- what shows that the reading of a board text and of the replies behind it ended so
abbrev pub EndsParts : List ℕ → Ending → Type 0
EndsParts bytes BadWords = ⊥
EndsParts bytes TooLong = ⊥
EndsParts bytes (Refused r) = IsUncheckedAs r bytes
EndsParts bytes (Wrong n) = ⊥
EndsParts bytes ReadFault = ⊥
EndsParts bytes WriteFault = ⊥
EndsParts bytes NoMemory = Unit {0}

-- the same of a source, from what it had left and its counts of faults before and after
abbrev pub EndsCheckedReading : Option (List ℕ) → ℕ → ℕ → Ending → Type 0
EndsCheckedReading left before after BadWords = ⊥
EndsCheckedReading left before after TooLong = IfTold left IsTooLong
EndsCheckedReading left before after (Refused r) = IfTold left (IsUncheckedAs r)
EndsCheckedReading left before after (Wrong n) = ⊥
EndsCheckedReading left before after ReadFault = Rose before after
EndsCheckedReading left before after WriteFault = ⊥
EndsCheckedReading left before after NoMemory = Unit {0}

-- what shows that the checking of replies ended so
abbrev pub EndsJudging : Told → List Reply → Ending → Type 0
EndsJudging told replies BadWords = ⊥
EndsJudging told replies TooLong = ⊥
EndsJudging told replies (Refused r) = ⊥
EndsJudging told replies (Wrong n) = IsFirstWrong told.parts told.commands replies n
EndsJudging told replies ReadFault = ⊥
EndsJudging told replies WriteFault = ⊥
EndsJudging told replies NoMemory = Unit {0}

-- the replies are those of a run over the commands, and a sink took the line that says how many they are
pub record TellsRight (told : Told) (replies : List Reply) (held holds : Option (List ℕ)) : Type 0 where
  pub run : IsRun told.parts told.commands replies
  pub written : Appends held holds (right_text (length replies))

-- the same, but a sink took only a part of the line
pub record TellsRightInPart (told : Told) (replies : List Reply) (held holds : Option (List ℕ)) : Type 0 where
  pub run : IsRun told.parts told.commands replies
  pub written : AppendsPart held holds (right_text (length replies))

-- what shows that the checking of replies and the line about them ended so
abbrev pub EndsTelling : Told → List Reply → Option (List ℕ) → Option (List ℕ) → ℕ → ℕ → Ending → Type 0
EndsTelling told replies held holds before after BadWords = ⊥
EndsTelling told replies held holds before after TooLong = ⊥
EndsTelling told replies held holds before after (Refused r) = ⊥
EndsTelling told replies held holds before after (Wrong n) = IsFirstWrong told.parts told.commands replies n
EndsTelling told replies held holds before after ReadFault = ⊥
EndsTelling told replies held holds before after WriteFault = Rose before after × TellsRightInPart told replies held holds
EndsTelling told replies held holds before after NoMemory = holds ≡ held
