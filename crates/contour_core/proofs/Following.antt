-- How the parts of a sequel come together.
use Rattle.std.proofs.Common.{◌≡◌, ◌≤◌, ℕ, true, List, Option, None, Some, All, refl, sym, subst, inl, inr, length, arith}
use Rattle.board_parts.specs.declared.commands.Command.{Command}
use Rattle.std.proofs.lemmas.List.{take_all}
use Rattle.io_edge.specs.Streams.{Appends, AppendsPart, Rose}
use Rattle.board_model.specs.declared.made.Conn.{Conn}
use Rattle.board_parts.specs.declared.parts.BoardParts.{BoardParts}
use Rattle.board_parts.specs.Commands.{IsCommandOf}
use Rattle.board_parts.specs.Rules.{IsBoard}
use Rattle.board_reader.specs.Reading.{Told}
use Rattle.call_words.specs.Asked.{SequelAsked, Following}
use Rattle.call_words.specs.Trials.{IsPlan, IsSoundSequel}
use Rattle.call_words.specs.declared.plans.Plan.{Plan}
use Rattle.reply_text.specs.Texts.{replies_text}
use Rattle.contour_core.specs.declared.endings.Ending.{Ending}
use Rattle.contour_core.specs.declared.endings.Ending.TheVariants.{BadWords, TooLong, Refused, Wrong, ReadFault, WriteFault, NoMemory}
use Rattle.contour_core.specs.Answers.{AnswersFirst}
use Rattle.contour_core.specs.Causes.{EndsCall}
use Rattle.contour_core.specs.Endings.{EndsAnswers, EndsReading, EndsSending}
use Rattle.contour_core.specs.Inputs.{IfTold, IsAcceptedAs, IsRefusedAs}
use Rattle.contour_core.specs.Sequels.{CarriesOut, CutsOutcome, EndsCarrying, EndsFollowing, EndsOutcome, Follows, FollowsInput, FollowsInputInPart, FollowsNoneOrFirst, IsUnfollowedAs, TellsOutcome, TellsPlan}
use Rattle.contour_core.specs.Sessions.{IsUnderway}
use Rattle.contour_core.proofs.Ended.{if_told-weaker}
use Rattle.contour_core.proofs.Replied.{Appends-join, answers_first, keeps_rules, rose-from}

-- an ending of the writing of what came of a plan
pub ends-outcome : (b : BoardParts) (lists : List (List Conn)) (plan : Plan) (text : List ℕ) → TellsPlan b lists plan text → (held holds : Option (List ℕ)) (before after : ℕ) (e : Ending) → EndsSending text held holds before after e → EndsOutcome b lists plan held holds before after e
ends-outcome b lists plan text tells held holds before after BadWords h = h
ends-outcome b lists plan text tells held holds before after TooLong h = h
ends-outcome b lists plan text tells held holds before after (Refused r) h = h
ends-outcome b lists plan text tells held holds before after (Wrong n) h = h
ends-outcome b lists plan text tells held holds before after ReadFault h = h
ends-outcome b lists plan text tells held holds before after WriteFault h = (h.0, record { text = text; tells = tells; part = h.1 })
ends-outcome b lists plan text tells held holds before after NoMemory h = h

module _ (told : Told) (plan : Plan) (board : IsBoard told.parts) (known : All (IsCommandOf told.parts) told.commands) where
  -- the replies, and then what came of the plan
  pub carries-out : (lists : List (List Conn)) (held between holds : Option (List ℕ)) → IsUnderway told.parts true told.commands lists held between → TellsOutcome told.parts lists plan between holds → CarriesOut told plan held holds
  carries-out lists held between holds u o = record {
    replies = u.replies;
    are_replies = record { run = (lists, u.run); rules = keeps_rules told.parts board told.commands u.replies known; regular = u.regular };
    lists = lists;
    led = u.run;
    text = o.text;
    tells = o.tells;
    written = Appends-join held between holds (replies_text told.parts true u.replies) o.text u.written o.written;
  }

  -- an ending of the replies
  pub ends-replied : (held holds : Option (List ℕ)) (before after : ℕ) (e : Ending) → EndsAnswers told.parts true told.commands held holds before after e → EndsCarrying told plan held holds before after e
  ends-replied held holds before after BadWords h = h
  ends-replied held holds before after TooLong h = h
  ends-replied held holds before after (Refused r) h = h
  ends-replied held holds before after (Wrong n) h = h
  ends-replied held holds before after ReadFault h = h
  ends-replied held holds before after WriteFault h = (h.0, inl h.1)
  ends-replied held holds before after NoMemory h = h

  -- an ending of the plan after the replies
  pub ends-carried : (lists : List (List Conn)) (held between holds : Option (List ℕ)) (begun before after : ℕ) → begun ≤ before → IsUnderway told.parts true told.commands lists held between → (e : Ending) → EndsOutcome told.parts lists plan between holds before after e → EndsCarrying told plan held holds begun after e
  ends-carried lists held between holds begun before after falls u BadWords h = h
  ends-carried lists held between holds begun before after falls u TooLong h = h
  ends-carried lists held between holds begun before after falls u (Refused r) h = h
  ends-carried lists held between holds begun before after falls u (Wrong n) h = h
  ends-carried lists held between holds begun before after falls u ReadFault h = h
  ends-carried lists held between holds begun before after falls u WriteFault h = (
    rose-from begun before after falls h.0,
    inr (record {
      replies = u.replies;
      are_replies = record { run = (lists, u.run); rules = keeps_rules told.parts board told.commands u.replies known; regular = u.regular };
      lists = lists;
      led = u.run;
      between = between;
      written = u.written;
      text = h.1.text;
      tells = h.1.tells;
      part = h.1.part;
    }),
  )
  ends-carried lists held between holds begun before after falls u NoMemory h =
      let P : Option (List ℕ) → Type 0 = λ x. IsUnderway told.parts true told.commands lists held x in
      let all = take_all (length told.commands) told.commands (omega arith) in
      let Q : List Command → Type 0 = λ cs. IsUnderway told.parts true cs lists held holds in
      answers_first told.parts board true told.commands (length told.commands) lists held holds known (subst Q (sym all) (subst P (sym h) u))

module _ (told : Told) (asked : SequelAsked) (plan : Plan) (sound : IsSoundSequel told.parts asked) (names : IsPlan told.parts asked plan) where
  pub follows : (held holds : Option (List ℕ)) → CarriesOut told plan held holds → Follows told asked held holds
  follows held holds h = record { sound = sound; plan = plan; names = names; carried = h }

  -- an ending of the carrying out of a plan
  pub ends-followed : (held holds : Option (List ℕ)) (before after : ℕ) (e : Ending) → EndsCarrying told plan held holds before after e → EndsFollowing told asked held holds before after e
  ends-followed held holds before after BadWords h = h
  ends-followed held holds before after TooLong h = h
  ends-followed held holds before after (Refused r) h = absurd h
  ends-followed held holds before after (Wrong n) h = h
  ends-followed held holds before after ReadFault h = h
  ends-followed held holds before after WriteFault h = (h.0, record { sound = sound; plan = plan; names = names; carried = h.1 })
  ends-followed held holds before after NoMemory h = inr (record { sound = sound; answered = h })

module _ (told : Told) (asked : SequelAsked) (left : Option (List ℕ)) (ok : IfTold left (IsAcceptedAs told)) where
  pub follows-input : (held holds : Option (List ℕ)) → Follows told asked held holds → IfTold left (FollowsInput asked held holds)
  follows-input held holds h =
      if_told-weaker left (IsAcceptedAs told) (FollowsInput asked held holds) (λ bytes accepted. record { told = told; accepted = accepted; followed = h }) ok

  -- nothing was written, or whole replies to the first commands
  none-or-first : (held holds : Option (List ℕ)) → EndsFollowing told asked held holds 0 0 NoMemory → IfTold left (FollowsNoneOrFirst asked held holds)
  none-or-first held holds (inl same) = if_told-weaker left (IsAcceptedAs told) (FollowsNoneOrFirst asked held holds) (λ bytes accepted. inl same) ok
  none-or-first held holds (inr first) = if_told-weaker left (IsAcceptedAs told) (FollowsNoneOrFirst asked held holds) (λ bytes accepted. inr (record { told = told; accepted = accepted; followed = first })) ok

  -- an ending of a sequel after the input was read
  pub ends-sequel : (reads reads' : ℕ) (held holds : Option (List ℕ)) (writes writes' : ℕ) (e : Ending) → EndsFollowing told asked held holds writes writes' e → EndsCall (Following asked) left reads reads' held holds writes writes' e
  ends-sequel reads reads' held holds writes writes' BadWords h = h
  ends-sequel reads reads' held holds writes writes' TooLong h = absurd h
  ends-sequel reads reads' held holds writes writes' (Refused r) h =
      if_told-weaker left (IsAcceptedAs told) (IsUnfollowedAs asked r) (λ bytes accepted. inr (record { told = told; accepted = accepted; refused = h })) ok
  ends-sequel reads reads' held holds writes writes' (Wrong n) h = h
  ends-sequel reads reads' held holds writes writes' ReadFault h = absurd h
  ends-sequel reads reads' held holds writes writes' WriteFault h =
      (h.0, if_told-weaker left (IsAcceptedAs told) (FollowsInputInPart asked held holds) (λ bytes accepted. record { told = told; accepted = accepted; followed = h.1 }) ok)
  ends-sequel reads reads' held holds writes writes' NoMemory h = none-or-first held holds h

-- nothing was written
none : (asked : SequelAsked) (left held : Option (List ℕ)) → IfTold left (FollowsNoneOrFirst asked held held)
none asked None held = tt
none asked (Some bytes) held = inl refl

-- an ending of the reading of the input, before anything was written
pub ends-untold : (asked : SequelAsked) (left : Option (List ℕ)) (reads reads' : ℕ) (held : Option (List ℕ)) (writes : ℕ) (e : Ending) → EndsReading left reads reads' e → EndsCall (Following asked) left reads reads' held held writes writes e
ends-untold asked left reads reads' held writes BadWords h = h
ends-untold asked left reads reads' held writes TooLong h = h
ends-untold asked left reads reads' held writes (Refused r) h =
    if_told-weaker left (IsRefusedAs r) (IsUnfollowedAs asked r) (λ bytes refused. inl refused) h
ends-untold asked left reads reads' held writes (Wrong n) h = h
ends-untold asked left reads reads' held writes ReadFault h = (tt, h)
ends-untold asked left reads reads' held writes WriteFault h = absurd h
ends-untold asked left reads reads' held writes NoMemory h = none asked left held
