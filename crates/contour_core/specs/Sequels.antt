-- Sequels: what is done and written after the replies to the commands of a board text.
use Rattle.std.specs.Prelude.{◌≡◌, ℕ, true, ◌++◌, ◌⊎◌, List, length, Option}
use Rattle.io_edge.specs.Streams.{Appends, AppendsPart, Rose}
use Rattle.geo_rect.specs.declared.ids.NetId.{NetId}
use Rattle.board_model.specs.declared.made.Conn.{Conn}
use Rattle.board_parts.specs.declared.parts.BoardParts.{BoardParts}
use Rattle.board_reader.specs.Reading.{Told}
use Rattle.board_reader.specs.declared.refusals.Refusal.{Refusal}
use Rattle.auto_route.specs.Best.{IsBestRound, round_at}
use Rattle.auto_route.specs.Rounds.{AreRounds}
use Rattle.auto_route.specs.States.{last_state}
use Rattle.auto_route.specs.Texts.{auto_text}
use Rattle.auto_route.specs.declared.told.Auto.{Auto as Rounds}
use Rattle.call_words.specs.Asked.{SequelAsked}
use Rattle.call_words.specs.Trials.{IsPlan, IsSequelFault, IsSoundSequel}
use Rattle.call_words.specs.declared.plans.Plan.{Plan}
use Rattle.call_words.specs.declared.plans.Plan.TheVariants.{Through, Auto}
use Rattle.reply_text.specs.Texts.{replies_text}
use Rattle.route_law.specs.declared.replies.Reply.{Reply}
use Rattle.route_law.specs.Kept.{IsState}
use Rattle.route_law.specs.Steps.{IsRunFrom, nothing_made}
use Rattle.yield_route.specs.declared.told.Through.{Through as Yielded}
use Rattle.yield_route.specs.Texts.{through_text}
use Rattle.yield_route.specs.Yielding.{IsThroughRun}
use Rattle.contour_core.specs.declared.endings.Ending.{Ending}
use Rattle.contour_core.specs.declared.endings.Ending.TheVariants.{BadWords, TooLong, Refused, Wrong, ReadFault, WriteFault, NoMemory}
use Rattle.contour_core.specs.Answers.{AnswersFirst, AreReplies, IsCutShort}
use Rattle.contour_core.specs.Inputs.{IfTold, IsAcceptedAs, IsRefusedAs, IsTooLong}

-- the text tells how the net was routed through the others in this state, and what came of it keeps the rules
pub record TellsThrough (b : BoardParts) (lists : List (List Conn)) (n : NetId) (others : List NetId) (text : List ℕ) : Type 0 where
  pub yielded : Yielded
  pub new : List (List Conn)
  pub run : IsThroughRun b lists n others yielded new
  pub kept : IsState b new
  pub spelled : text ≡ through_text b n yielded

-- the text tells so many rounds of routing, and the connections of the best one
pub record TellsRounds (b : BoardParts) (count : ℕ) (text : List ℕ) : Type 0 where
  pub played : Rounds
  pub counted : length played.rounds ≡ count
  pub rounds : AreRounds b played.rounds
  pub best : IsBestRound b played.rounds played.best
  pub spelled : text ≡ auto_text b (last_state b (round_at played.rounds played.best)) played

-- the text tells what came of the plan in this state
abbrev pub TellsPlan : BoardParts → List (List Conn) → Plan → List ℕ → Type 0
TellsPlan b lists (Through n others) text = TellsThrough b lists n others text
TellsPlan b lists (Auto count) text = TellsRounds b count text

-- in this state a sink took what came of the plan
pub record TellsOutcome (b : BoardParts) (lists : List (List Conn)) (plan : Plan) (held holds : Option (List ℕ)) : Type 0 where
  pub text : List ℕ
  pub tells : TellsPlan b lists plan text
  pub written : Appends held holds text

-- the same, but a sink took only a part of it
pub record TellsOutcomeInPart (b : BoardParts) (lists : List (List Conn)) (plan : Plan) (held holds : Option (List ℕ)) : Type 0 where
  pub text : List ℕ
  pub tells : TellsPlan b lists plan text
  pub part : AppendsPart held holds text

-- what shows that the carrying out of a plan ended so, from what the sink held and its counts of faults before and after
abbrev pub EndsOutcome : BoardParts → List (List Conn) → Plan → Option (List ℕ) → Option (List ℕ) → ℕ → ℕ → Ending → Type 0
EndsOutcome b lists plan held holds before after BadWords = ⊥
EndsOutcome b lists plan held holds before after TooLong = ⊥
EndsOutcome b lists plan held holds before after (Refused r) = ⊥
EndsOutcome b lists plan held holds before after (Wrong n) = ⊥
EndsOutcome b lists plan held holds before after ReadFault = ⊥
EndsOutcome b lists plan held holds before after WriteFault = Rose before after × TellsOutcomeInPart b lists plan held holds
EndsOutcome b lists plan held holds before after NoMemory = holds ≡ held

-- a sink took the replies to the commands, without certificates, then what came of the plan, and nothing else
pub record CarriesOut (told : Told) (plan : Plan) (held holds : Option (List ℕ)) : Type 0 where
  pub replies : List Reply
  pub are_replies : AreReplies told.parts told.commands replies
  pub lists : List (List Conn)
  pub led : IsRunFrom told.parts (nothing_made told.parts) told.commands replies lists
  pub text : List ℕ
  pub tells : TellsPlan told.parts lists plan text
  pub written : Appends held holds (replies_text told.parts true replies ++ text)

-- a sink took the replies to the commands, then a part of what came of the plan
pub record CutsOutcome (told : Told) (plan : Plan) (held holds : Option (List ℕ)) : Type 0 where
  pub replies : List Reply
  pub are_replies : AreReplies told.parts told.commands replies
  pub lists : List (List Conn)
  pub led : IsRunFrom told.parts (nothing_made told.parts) told.commands replies lists
  pub between : Option (List ℕ)
  pub written : Appends held between (replies_text told.parts true replies)
  pub text : List ℕ
  pub tells : TellsPlan told.parts lists plan text
  pub part : AppendsPart between holds text

-- a sink took whole replies to the first commands, then a part of the next, or of what came of the plan
abbrev pub CarriesOutInPart : Told → Plan → Option (List ℕ) → Option (List ℕ) → Type 0
CarriesOutInPart told plan held holds = IsCutShort told.parts true told.commands held holds ⊎ CutsOutcome told plan held holds

-- what shows that the replies and the plan ended so
abbrev pub EndsCarrying : Told → Plan → Option (List ℕ) → Option (List ℕ) → ℕ → ℕ → Ending → Type 0
EndsCarrying told plan held holds before after BadWords = ⊥
EndsCarrying told plan held holds before after TooLong = ⊥
EndsCarrying told plan held holds before after (Refused r) = ⊥
EndsCarrying told plan held holds before after (Wrong n) = ⊥
EndsCarrying told plan held holds before after ReadFault = ⊥
EndsCarrying told plan held holds before after WriteFault = Rose before after × CarriesOutInPart told plan held holds
EndsCarrying told plan held holds before after NoMemory = AnswersFirst told.parts true told.commands held holds

-- the names of the sequel are those of the board, and a sink took the replies and what came of it
pub record Follows (told : Told) (asked : SequelAsked) (held holds : Option (List ℕ)) : Type 0 where
  pub sound : IsSoundSequel told.parts asked
  pub plan : Plan
  pub names : IsPlan told.parts asked plan
  pub carried : CarriesOut told plan held holds

-- the same, but a sink took only whole replies to the first commands, then a part of the next, or of what came of it
pub record FollowsInPart (told : Told) (asked : SequelAsked) (held holds : Option (List ℕ)) : Type 0 where
  pub sound : IsSoundSequel told.parts asked
  pub plan : Plan
  pub names : IsPlan told.parts asked plan
  pub carried : CarriesOutInPart told plan held holds

-- the names of the sequel are those of the board, and a sink took whole replies to the first commands
pub record FollowsFirst (told : Told) (asked : SequelAsked) (held holds : Option (List ℕ)) : Type 0 where
  pub sound : IsSoundSequel told.parts asked
  pub answered : AnswersFirst told.parts true told.commands held holds

-- the sequel breaks a rule on the board, and the refusal names no line and the kind of the first such rule
pub record IsRefusedAfter (b : BoardParts) (asked : SequelAsked) (refusal : Refusal) : Type 0 where
  pub line : refusal.line ≡ 0
  pub fault : IsSequelFault b asked refusal.kind

-- what shows that a sequel of an input ended so
abbrev pub EndsFollowing : Told → SequelAsked → Option (List ℕ) → Option (List ℕ) → ℕ → ℕ → Ending → Type 0
EndsFollowing told asked held holds before after BadWords = ⊥
EndsFollowing told asked held holds before after TooLong = ⊥
EndsFollowing told asked held holds before after (Refused r) = IsRefusedAfter told.parts asked r
EndsFollowing told asked held holds before after (Wrong n) = ⊥
EndsFollowing told asked held holds before after ReadFault = ⊥
EndsFollowing told asked held holds before after WriteFault = Rose before after × FollowsInPart told asked held holds
EndsFollowing told asked held holds before after NoMemory = (holds ≡ held) ⊎ FollowsFirst told asked held holds

-- the bytes are a board text, and a sink took the replies and what came of the sequel, and nothing else
pub record FollowsInput (asked : SequelAsked) (held holds : Option (List ℕ)) (bytes : List ℕ) : Type 0 where
  pub told : Told
  pub accepted : IsAcceptedAs told bytes
  pub followed : Follows told asked held holds

-- the same, but a sink took only a part
pub record FollowsInputInPart (asked : SequelAsked) (held holds : Option (List ℕ)) (bytes : List ℕ) : Type 0 where
  pub told : Told
  pub accepted : IsAcceptedAs told bytes
  pub followed : FollowsInPart told asked held holds

-- the same, but a sink took only whole replies to the first commands
pub record FollowsInputFirst (asked : SequelAsked) (held holds : Option (List ℕ)) (bytes : List ℕ) : Type 0 where
  pub told : Told
  pub accepted : IsAcceptedAs told bytes
  pub followed : FollowsFirst told asked held holds

-- the sink took nothing, or whole replies to the first commands of a board text
abbrev pub FollowsNoneOrFirst : SequelAsked → Option (List ℕ) → Option (List ℕ) → List ℕ → Type 0
FollowsNoneOrFirst asked held holds bytes = (holds ≡ held) ⊎ FollowsInputFirst asked held holds bytes

-- the bytes are a board text, and the sequel breaks a rule on the board
pub record IsUnsoundAfter (asked : SequelAsked) (refusal : Refusal) (bytes : List ℕ) : Type 0 where
  pub told : Told
  pub accepted : IsAcceptedAs told bytes
  pub refused : IsRefusedAfter told.parts asked refusal

-- the bytes are refused, or the sequel is
abbrev pub IsUnfollowedAs : SequelAsked → Refusal → List ℕ → Type 0
IsUnfollowedAs asked refusal bytes = IsRefusedAs refusal bytes ⊎ IsUnsoundAfter asked refusal bytes

abbrev pub IsUnfollowed : SequelAsked → List ℕ → Type 0
IsUnfollowed asked bytes = IsTooLong bytes ⊎ ((refusal : Refusal) × IsUnfollowedAs asked refusal bytes)

-- the bytes are a board text, and the sequel breaks no rule on the board
pub record IsFollowable (asked : SequelAsked) (bytes : List ℕ) : Type 0 where
  pub told : Told
  pub accepted : IsAcceptedAs told bytes
  pub sound : IsSoundSequel told.parts asked

-- what an ending says of the input of a sequel is so
abbrev pub IsOfSequel : SequelAsked → Option (List ℕ) → Ending → Type 0
IsOfSequel asked left BadWords = Unit {0}
IsOfSequel asked left TooLong = IfTold left IsTooLong
IsOfSequel asked left (Refused r) = IfTold left (IsUnfollowedAs asked r)
IsOfSequel asked left (Wrong n) = ⊥
IsOfSequel asked left ReadFault = Unit {0}
IsOfSequel asked left WriteFault = Unit {0}
IsOfSequel asked left NoMemory = Unit {0}
