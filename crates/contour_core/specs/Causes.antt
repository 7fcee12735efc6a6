-- What a whole call of the program has done when it ends, and what shows each ending.
use Rattle.std.specs.Prelude.{◌≡◌, ℕ, Bool, true, ◌⊎◌, List, [], Option}
use Rattle.io_edge.specs.Streams.{Appends, AppendsPart, IsToldAs, Rose}
use Rattle.board_gen.specs.Generated.{generated}
use Rattle.board_reader.specs.Reading.{Told}
use Rattle.call_words.specs.Asked.{Asked, Run, Check, Upgrade, Gen, Demo, Reporting, Following}
use Rattle.call_words.specs.Requests.{IsNoRequest}
use Rattle.contour_core.specs.declared.endings.Ending.{Ending}
use Rattle.contour_core.specs.declared.endings.Ending.TheVariants.{BadWords, TooLong, Refused, Wrong, ReadFault, WriteFault, NoMemory}
use Rattle.contour_core.specs.declared.endings.Status.{Status}
use Rattle.contour_core.specs.declared.endings.Status.TheVariants as status
use Rattle.contour_core.specs.Answers.{AnswersAll, AnswersFirst, IsCutShort}
use Rattle.contour_core.specs.Checked.{FindsRight, FindsRightInPart, FindsWrong, IsChecked, IsUnchecked, IsUncheckedAs}
use Rattle.contour_core.specs.Demos.{IsOfGenerated, SumsUp, SumsUpInPart}
use Rattle.contour_core.specs.Endings.{status_of, line_of}
use Rattle.contour_core.specs.Upgrades.{UpgradesInput, UpgradesInputInPart}
use Rattle.contour_core.specs.Reports.{FindsWrongFor, IsOfReport, IsReportable, IsUnreported, ReportsInput, ReportsInputInPart}
use Rattle.contour_core.specs.Requests.{IsRequestThat, ReadsInput}
use Rattle.contour_core.specs.Sequels.{FollowsInput, FollowsInputInPart, FollowsNoneOrFirst, IsFollowable, IsOfSequel, IsUnfollowed}
use Rattle.contour_core.specs.Inputs.{IfTold, IsToldAnd, IsTooLong, IsAcceptedAs, IsAccepted, IsRefusedAs, IsRefused}

-- the bytes are a board text, and a sink took the replies to its commands and nothing else
pub record AnswersInput (quiet : Bool) (held holds : Option (List ℕ)) (bytes : List ℕ) : Type 0 where
  pub told : Told
  pub accepted : IsAcceptedAs told bytes
  pub answered : AnswersAll told.parts quiet told.commands held holds

-- the bytes are a board text, and a sink took whole replies to its first commands and nothing else
pub record AnswersInputFirst (quiet : Bool) (held holds : Option (List ℕ)) (bytes : List ℕ) : Type 0 where
  pub told : Told
  pub accepted : IsAcceptedAs told bytes
  pub answered : AnswersFirst told.parts quiet told.commands held holds

-- the bytes are a board text, and a sink took whole replies to its first commands, then a part of the next
pub record CutsInputShort (quiet : Bool) (held holds : Option (List ℕ)) (bytes : List ℕ) : Type 0 where
  pub told : Told
  pub accepted : IsAcceptedAs told bytes
  pub answered : IsCutShort told.parts quiet told.commands held holds

-- the sink took nothing, or whole replies to the first commands of a board text
abbrev pub AnswersNoneOrFirst : Bool → Option (List ℕ) → Option (List ℕ) → List ℕ → Type 0
AnswersNoneOrFirst quiet held holds bytes = (holds ≡ held) ⊎ AnswersInputFirst quiet held holds bytes

-- what a request has done with what the source had left (left), where the sink held the one before and
-- holds the other
abbrev pub HasDone : Option (List ℕ) → Option (List ℕ) → Option (List ℕ) → Asked → Type 0
HasDone left held holds (Run quiet) = IfTold left (AnswersInput quiet held holds)
HasDone left held holds Check = IfTold left (FindsRight held holds)
HasDone left held holds Upgrade = IfTold left (UpgradesInput held holds)
HasDone left held holds (Gen n) = Appends held holds (generated n)
HasDone left held holds (Demo n) = IsOfGenerated n (λ b cs. SumsUp b cs n held holds)
HasDone left held holds (Reporting r) = IfTold left (ReportsInput r held holds)
HasDone left held holds (Following s) = IfTold left (FollowsInput s held holds)

-- what a request has read when it is done, where the source had left the one and then the other: all that there was, or
-- nothing
abbrev pub HasRead : Option (List ℕ) → Option (List ℕ) → Asked → Type 0
HasRead left left' (Run quiet) = IsToldAs left' []
HasRead left left' Check = IsToldAs left' []
HasRead left left' Upgrade = IsToldAs left' []
HasRead left left' (Gen n) = left' ≡ left
HasRead left left' (Demo n) = left' ≡ left
HasRead left left' (Reporting r) = IsToldAs left' []
HasRead left left' (Following s) = IsToldAs left' []

-- what a request has written when a write failed
abbrev pub HasBeenCut : Option (List ℕ) → Option (List ℕ) → Option (List ℕ) → Asked → Type 0
HasBeenCut left held holds (Run quiet) = IfTold left (CutsInputShort quiet held holds)
HasBeenCut left held holds Check = IfTold left (FindsRightInPart held holds)
HasBeenCut left held holds Upgrade = IfTold left (UpgradesInputInPart held holds)
HasBeenCut left held holds (Gen n) = AppendsPart held holds (generated n)
HasBeenCut left held holds (Demo n) = IsOfGenerated n (λ b cs. SumsUpInPart b cs n held holds)
HasBeenCut left held holds (Reporting r) = IfTold left (ReportsInputInPart r held holds)
HasBeenCut left held holds (Following s) = IfTold left (FollowsInputInPart s held holds)

-- what a request has written when memory was wanting
abbrev pub HasRunOut : Option (List ℕ) → Option (List ℕ) → Option (List ℕ) → Asked → Type 0
HasRunOut left held holds (Run quiet) = IfTold left (AnswersNoneOrFirst quiet held holds)
HasRunOut left held holds Check = holds ≡ held
HasRunOut left held holds Upgrade = holds ≡ held
HasRunOut left held holds (Gen n) = holds ≡ held
HasRunOut left held holds (Demo n) = IsOfGenerated n (λ b cs. AnswersFirst b true cs held holds)
HasRunOut left held holds (Reporting r) = holds ≡ held
HasRunOut left held holds (Following s) = IfTold left (FollowsNoneOrFirst s held holds)

-- the request reads an input, and this one is refused
abbrev pub Refuses : Option (List ℕ) → Asked → Type 0
Refuses left (Run quiet) = IfTold left IsRefused
Refuses left Check = IfTold left IsUnchecked
Refuses left Upgrade = IfTold left IsRefused
Refuses left (Gen n) = ⊥
Refuses left (Demo n) = ⊥
Refuses left (Reporting r) = IfTold left (IsUnreported r)
Refuses left (Following s) = IfTold left (IsUnfollowed s)

-- the input that is read is told, and is refused, or the names and numbers of the words are
abbrev pub MustRefuse : Option (List ℕ) → Asked → Type 0
MustRefuse left (Run quiet) = IsToldAnd left IsRefused
MustRefuse left Check = IsToldAnd left IsUnchecked
MustRefuse left Upgrade = IsToldAnd left IsRefused
MustRefuse left (Gen n) = ⊥
MustRefuse left (Demo n) = ⊥
MustRefuse left (Reporting r) = IsToldAnd left (IsUnreported r)
MustRefuse left (Following s) = IsToldAnd left (IsUnfollowed s)

-- the input that the request reads is told, and is accepted; or it reads none
abbrev pub MustAccept : Option (List ℕ) → Asked → Type 0
MustAccept left (Run quiet) = IsToldAnd left IsAccepted
MustAccept left Check = IsToldAnd left IsChecked
MustAccept left Upgrade = IsToldAnd left IsAccepted
MustAccept left (Gen n) = Unit {0}
MustAccept left (Demo n) = Unit {0}
MustAccept left (Reporting r) = IsToldAnd left (IsReportable r)
MustAccept left (Following s) = IsToldAnd left (IsFollowable s)

-- replies were to be checked, and some are wrong
abbrev pub HasFoundWrong : Option (List ℕ) → Asked → Type 0
HasFoundWrong left (Run quiet) = ⊥
HasFoundWrong left Check = IfTold left (λ bytes. (n : ℕ) × FindsWrong n bytes)
HasFoundWrong left Upgrade = ⊥
HasFoundWrong left (Gen n) = ⊥
HasFoundWrong left (Demo n) = ⊥
HasFoundWrong left (Reporting r) = IfTold left (λ bytes. (n : ℕ) × FindsWrongFor r n bytes)
HasFoundWrong left (Following s) = ⊥

-- what an ending says of a board text with commands is so
abbrev pub IsOfBoardText : Option (List ℕ) → Ending → Type 0
IsOfBoardText left BadWords = Unit {0}
IsOfBoardText left TooLong = IfTold left IsTooLong
IsOfBoardText left (Refused r) = IfTold left (IsRefusedAs r)
IsOfBoardText left (Wrong n) = ⊥
IsOfBoardText left ReadFault = Unit {0}
IsOfBoardText left WriteFault = Unit {0}
IsOfBoardText left NoMemory = Unit {0}

-- what an ending says of a board text with replies is so
abbrev pub IsOfReplies : Option (List ℕ) → Ending → Type 0
IsOfReplies left BadWords = Unit {0}
IsOfReplies left TooLong = IfTold left IsTooLong
IsOfReplies left (Refused r) = IfTold left (IsUncheckedAs r)
IsOfReplies left (Wrong n) = IfTold left (FindsWrong n)
IsOfReplies left ReadFault = Unit {0}
IsOfReplies left WriteFault = Unit {0}
IsOfReplies left NoMemory = Unit {0}

-- what the ending says of the input that the request reads is so
abbrev pub IsOfInput : Option (List ℕ) → Ending → Asked → Type 0
IsOfInput left ending (Run quiet) = IsOfBoardText left ending
IsOfInput left ending Check = IsOfReplies left ending
IsOfInput left ending Upgrade = IsOfBoardText left ending
IsOfInput left ending (Gen n) = ⊥
IsOfInput left ending (Demo n) = ⊥
IsOfInput left ending (Reporting r) = IsOfReport r left ending
IsOfInput left ending (Following s) = IsOfSequel s left ending

-- what shows an ending of a request: of the input, from what the source had left (left) and its counts of faults (reads,
-- reads'), and of the output, from what the sink held before and holds (held, holds) and its counts of faults (writes, writes')
abbrev pub EndsCall : Asked → Option (List ℕ) → ℕ → ℕ → Option (List ℕ) → Option (List ℕ) → ℕ → ℕ → Ending → Type 0
EndsCall r left reads reads' held holds writes writes' BadWords = ⊥
EndsCall r left reads reads' held holds writes writes' TooLong = IsOfInput left TooLong r
EndsCall r left reads reads' held holds writes writes' (Refused refusal) = IsOfInput left (Refused refusal) r
EndsCall r left reads reads' held holds writes writes' (Wrong n) = IsOfInput left (Wrong n) r
EndsCall r left reads reads' held holds writes writes' ReadFault = ReadsInput r × Rose reads reads'
EndsCall r left reads reads' held holds writes writes' WriteFault = Rose writes writes' × HasBeenCut left held holds r
EndsCall r left reads reads' held holds writes writes' NoMemory = HasRunOut left held holds r

-- what shows an ending of a call with these words
abbrev pub EndsAttempt : List (List ℕ) → Option (List ℕ) → ℕ → ℕ → Option (List ℕ) → Option (List ℕ) → ℕ → ℕ → Ending → Type 0
EndsAttempt words left reads reads' held holds writes writes' BadWords = IsNoRequest words
EndsAttempt words left reads reads' held holds writes writes' TooLong =
    IsRequestThat words (λ r. EndsCall r left reads reads' held holds writes writes' TooLong)
EndsAttempt words left reads reads' held holds writes writes' (Refused refusal) =
    IsRequestThat words (λ r. EndsCall r left reads reads' held holds writes writes' (Refused refusal))
EndsAttempt words left reads reads' held holds writes writes' (Wrong n) =
    IsRequestThat words (λ r. EndsCall r left reads reads' held holds writes writes' (Wrong n))
EndsAttempt words left reads reads' held holds writes writes' ReadFault =
    IsRequestThat words (λ r. EndsCall r left reads reads' held holds writes writes' ReadFault)
EndsAttempt words left reads reads' held holds writes writes' WriteFault =
    IsRequestThat words (λ r. EndsCall r left reads reads' held holds writes writes' WriteFault)
EndsAttempt words left reads reads' held holds writes writes' NoMemory =
    IsRequestThat words (λ r. EndsCall r left reads reads' held holds writes writes' NoMemory)

-- the call ended before the first reply was begun
abbrev pub IsBeforeReplies : Ending → Type 0
IsBeforeReplies BadWords = Unit {0}
IsBeforeReplies TooLong = Unit {0}
IsBeforeReplies (Refused r) = Unit {0}
IsBeforeReplies (Wrong n) = Unit {0}
IsBeforeReplies ReadFault = Unit {0}
IsBeforeReplies WriteFault = ⊥
IsBeforeReplies NoMemory = ⊥

-- the statuses of calls that end before the first reply is begun
abbrev pub IsUnwritten : Status → Type 0
IsUnwritten status.Done = ⊥
IsUnwritten status.Wrong = Unit {0}
IsUnwritten status.BadWords = Unit {0}
IsUnwritten status.BadInput = Unit {0}
IsUnwritten status.ReadFault = Unit {0}
IsUnwritten status.WriteFault = ⊥
IsUnwritten status.NoMemory = ⊥

-- a sink took exactly this line, or, where its count of faults rose, a part of it
abbrev pub TellsLine : List ℕ → Option (List ℕ) → Option (List ℕ) → ℕ → ℕ → Type 0
TellsLine line held holds before after = Appends held holds line ⊎ (Rose before after × AppendsPart held holds line)

-- what an ending says of the input of a call with these words is so
abbrev pub IsSoOfInput : List (List ℕ) → Option (List ℕ) → Ending → Type 0
IsSoOfInput words left BadWords = Unit {0}
IsSoOfInput words left TooLong = IsRequestThat words (IsOfInput left TooLong)
IsSoOfInput words left (Refused r) = IsRequestThat words (IsOfInput left (Refused r))
IsSoOfInput words left (Wrong n) = IsRequestThat words (IsOfInput left (Wrong n))
IsSoOfInput words left ReadFault = Unit {0}
IsSoOfInput words left WriteFault = Unit {0}
IsSoOfInput words left NoMemory = Unit {0}

-- a sink took the line of an ending that has this status and is so of the input
pub record TellsStatus (status : Status) (words : List (List ℕ)) (left held holds : Option (List ℕ)) (before after : ℕ) : Type 0 where
  pub ending : Ending
  pub has_status : status_of ending ≡ status
  pub of_input : IsSoOfInput words left ending
  pub line : TellsLine (line_of ending) held holds before after
