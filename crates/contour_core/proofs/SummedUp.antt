-- The replies of a demonstration and their summary, written one after another.
use Rattle.std.proofs.Common.{◌≡◌, ℕ, ◌≤◌, inl, inr, true, List, [], ◌∷◌, ◌++◌, All, Option, Ok, Err, refl, sym, ap, ◌∙◌, subst, append_assoc, append-nil, arith}
use Rattle.std.proofs.lemmas.List.Elements.{All-nil, All-cons}
use Rattle.io_edge.specs.Streams.{Appends}
use Rattle.board_gen.specs.Generated.{asked, generated, generated_board}
use Rattle.board_gen.proofs.GoodBoard.{asked-of-any, generated-is-board, generated-is-read}
use Rattle.board_parts.specs.declared.commands.Command.{Command}
use Rattle.board_parts.specs.declared.commands.Command.TheVariants as command
use Rattle.board_model.specs.declared.made.Conn.{Conn}
use Rattle.board_parts.specs.declared.parts.BoardParts.{BoardParts}
use Rattle.board_parts.specs.Rules.{IsBoard}
use Rattle.board_reader.specs.declared.inputs.Input.{Input}
use Rattle.call_words.specs.Numbers.{IsSize}
use Rattle.board_reader.specs.declared.refusals.ReadInput.{ReadInput}
use Rattle.board_reader.specs.declared.refusals.ReadInput.TheVariants as input
use Rattle.board_reader.specs.Contract.{told_by, TellsReading}
use Rattle.board_reader.specs.Reading.{reading, Told}
use Rattle.board_text.specs.Spelled.{told_of}
use Rattle.demo_text.specs.Summary.{summary}
use Rattle.reply_text.specs.Texts.{reply_text}
use Rattle.route_law.specs.declared.replies.Reply.{Reply}
use Rattle.route_law.specs.Regular.{IsRegular}
use Rattle.route_law.specs.Steps.{nothing_made}
use Rattle.contour_core.specs.declared.endings.Ending.{Ending}
use Rattle.contour_core.specs.declared.endings.Ending.TheVariants.{BadWords, TooLong, Refused, Wrong, ReadFault, WriteFault, NoMemory}
use Rattle.contour_core.specs.Answers.{AreReplies, AnswersFirst}
use Rattle.contour_core.specs.Demos.{IsOfGenerated, SumsUp, CutsSummary, SumsUpInPart, EndsSummary, EndsDemo, Finishes, FinishesInPart, EndsFinish}
use Rattle.contour_core.specs.Endings.{EndsAnswer, EndsAnswers, EndsSending, ending_of_input}
use Rattle.contour_core.specs.Sessions.{IsUnderway, AnswersOne, AnswersWith}
use Rattle.contour_core.proofs.Replied.{Appends-join, underway_none, underway_more, keeps_rules, answers_first, cut_short, ends_all, rose-from}

-- two texts, one after the other, as the text of a list of two
join_two : (x y : List ℕ) → x ++ y ≡ x ++ (y ++ [])
join_two x y = ap (λ z. x ++ z) (sym (append-nil y))

join_three : (x y z : List ℕ) → x ++ (y ++ z) ≡ (x ++ (y ++ [])) ++ z
join_three x y z = sym (append_assoc x y z) ∙ ap (λ w. w ++ z) (join_two x y)

-- the reply to `all` in a session on this board in which nothing is made
pub answers_at : (b b' : BoardParts) (lists mid : List (List Conn)) (first : Reply) (held holds : Option (List ℕ)) → b' ≡ b → lists ≡ nothing_made b → AnswersWith b' true lists command.All first mid held holds → AnswersWith b true (nothing_made b) command.All first mid held holds
answers_at b b' lists mid first held holds same none a =
    let P : List (List Conn) → Type 0 = λ ls. AnswersWith b true ls command.All first mid held holds in
    let Q : BoardParts → Type 0 = λ x. AnswersWith x true lists command.All first mid held holds in
    subst P none (subst Q same a)

module _ (b : BoardParts) (board : IsBoard b) (n : ℕ) where
  -- after the reply to `all`
  module _ (first : Reply) (mid : List (List Conn)) (held between : Option (List ℕ)) (a : AnswersWith b true (nothing_made b) command.All first mid held between) where
    one_reply : IsUnderway b true (command.All ∷ []) mid held between
    one_reply = underway_more b true asked 0 command.All (nothing_made b) mid held held between (omega arith) (underway_none b true held) (record { reply = first; answered = a })

    are_both : (second : Reply) (new : List (List Conn)) (before after : Option (List ℕ)) → AnswersWith b true mid command.Rules second new before after → AreReplies b asked (first ∷ second ∷ [])
    are_both second new before after s = record {
      run = (new, (mid, a.step, (new, s.step, refl)));
      rules = keeps_rules b board asked (first ∷ second ∷ []) (asked-of-any b);
      regular = All-cons (IsRegular b) first (second ∷ []) a.regular (All-cons (IsRegular b) second [] s.regular (All-nil (IsRegular b)));
    }

    pub sums_up : (holds : Option (List ℕ)) → Finishes b mid n first between holds → SumsUp b asked n held holds
    sums_up holds f =
        let x : List ℕ = reply_text b true first in
        let y : List ℕ = reply_text b true f.second in
        let z : List ℕ = summary n first f.second in
        let P : List ℕ → Type 0 = λ text. Appends held holds text in
        record {
          first = first;
          second = f.second;
          are_replies = are_both f.second f.new between f.between f.answered;
          written = subst P (join_three x y z) (Appends-join held between holds x (y ++ z) a.written (Appends-join between f.between holds y z f.answered.written f.summed));
        }

    cuts_summary : (holds : Option (List ℕ)) → FinishesInPart b mid n first between holds → CutsSummary b asked n held holds
    cuts_summary holds f =
        let x : List ℕ = reply_text b true first in
        let y : List ℕ = reply_text b true f.second in
        let P : List ℕ → Type 0 = λ text. Appends held f.between text in
        record {
          first = first;
          second = f.second;
          are_replies = are_both f.second f.new between f.between f.answered;
          between = f.between;
          written = subst P (join_two x y) (Appends-join held between f.between x y a.written f.answered.written);
          part = f.part;
        }

    pub ends_summary : (holds : Option (List ℕ)) (begun before after : ℕ) → begun ≤ before → (e : Ending) → EndsFinish b mid n first between holds before after e → EndsSummary b asked n held holds begun after e
    ends_summary holds begun before after falls BadWords h = h
    ends_summary holds begun before after falls TooLong h = h
    ends_summary holds begun before after falls (Refused r) h = h
    ends_summary holds begun before after falls (Wrong m) h = h
    ends_summary holds begun before after falls ReadFault h = h
    ends_summary holds begun before after falls WriteFault h = (
      rose-from begun before after falls h.0,
      elim h.1 as (λ _. SumsUpInPart b asked n held holds) [
        | inl part ↦ inl (cut_short b board true asked 1 command.All mid held between holds (omega arith) (asked-of-any b) one_reply part)
        | inr f ↦ inr (cuts_summary holds f)
      ],
    )
    ends_summary holds begun before after falls NoMemory h =
        elim h as (λ _. AnswersFirst b true asked held holds) [
          | inl same ↦ subst (λ (x : Option (List ℕ)). AnswersFirst b true asked held x) (sym same) (answers_first b board true asked 1 mid held between (asked-of-any b) one_reply)
          | inr f ↦ answers_first b board true asked 2 f.0 held holds (asked-of-any b) (underway_more b true asked 1 command.All mid f.0 held between holds (omega arith) one_reply f.1)
        ]

  -- an ending of the reply to `all`
  ends_replies : (held holds : Option (List ℕ)) (before after : ℕ) (e : Ending) → EndsAnswers b true asked held holds before after e → EndsSummary b asked n held holds before after e
  ends_replies held holds before after BadWords h = h
  ends_replies held holds before after TooLong h = h
  ends_replies held holds before after (Refused r) h = h
  ends_replies held holds before after (Wrong m) h = h
  ends_replies held holds before after ReadFault h = h
  ends_replies held holds before after WriteFault h = (h.0, inl h.1)
  ends_replies held holds before after NoMemory h = h

  pub ends_first : (b' : BoardParts) (lists : List (List Conn)) (held holds : Option (List ℕ)) (before after : ℕ) → b' ≡ b → lists ≡ nothing_made b → (e : Ending) → EndsAnswer b' true lists command.All held holds before after e → EndsSummary b asked n held holds before after e
  ends_first b' lists held holds before after same none e h =
      let P : List (List Conn) → Type 0 = λ ls. IsUnderway b true [] ls held held in
      ends_replies held holds before after e
      (ends_all b board b' true asked 0 command.All lists held held holds before before after same (omega arith) (asked-of-any b) (omega arith) (subst P (sym none) (underway_none b true held)) e h)

  -- before any reply
  pub none_written : (held : Option (List ℕ)) → AnswersFirst b true asked held held
  none_written held = answers_first b board true asked 0 (nothing_made b) held held (asked-of-any b) (underway_none b true held)

-- an ending of the summary after the reply to `rules`
module _ (b : BoardParts) (lists new : List (List Conn)) (n : ℕ) (first second : Reply) (held between : Option (List ℕ)) (s : AnswersWith b true lists command.Rules second new held between) where
  pub finishes : (holds : Option (List ℕ)) → Appends between holds (summary n first second) → Finishes b lists n first held holds
  finishes holds written = record { second = second; new = new; between = between; answered = s; summed = written }

  pub ends_finish : (holds : Option (List ℕ)) (begun before after : ℕ) → begun ≤ before → (e : Ending) → EndsSending (summary n first second) between holds before after e → EndsFinish b lists n first held holds begun after e
  ends_finish holds begun before after falls BadWords h = h
  ends_finish holds begun before after falls TooLong h = h
  ends_finish holds begun before after falls (Refused r) h = h
  ends_finish holds begun before after falls (Wrong m) h = h
  ends_finish holds begun before after falls ReadFault h = h
  ends_finish holds begun before after falls WriteFault h =
      (rose-from begun before after falls h.0, inr (record { second = second; new = new; between = between; answered = s; part = h.1 }))
  ends_finish holds begun before after falls NoMemory h =
      inr (new, subst (λ (x : Option (List ℕ)). AnswersOne b true lists command.Rules new held x) (sym h) (record { reply = second; answered = s }))

-- an ending of the reply to `rules`
pub ends_second : (b : BoardParts) (lists : List (List Conn)) (n : ℕ) (first : Reply) (held holds : Option (List ℕ)) (before after : ℕ) (e : Ending) → EndsAnswer b true lists command.Rules held holds before after e → EndsFinish b lists n first held holds before after e
ends_second b lists n first held holds before after BadWords h = h
ends_second b lists n first held holds before after TooLong h = h
ends_second b lists n first held holds before after (Refused r) h = h
ends_second b lists n first held holds before after (Wrong m) h = h
ends_second b lists n first held holds before after ReadFault h = h
ends_second b lists n first held holds before after WriteFault h = (h.0, inl h.1)
ends_second b lists n first held holds before after NoMemory h = inl h

module _ (n : ℕ) (size : IsSize n) where
  -- what is written where no memory is left before the first reply
  pub nothing_written : (held : Option (List ℕ)) (before : ℕ) → EndsDemo n held held before before NoMemory
  nothing_written held before = record {
    told = told_of (generated_board n) asked;
    read = generated-is-read n size.from size.to;
    holds = none_written (generated_board n) (generated-is-board n size.from size.to) n held;
  }

  -- a generated text is not refused
  pub ends_read : (text : List ℕ) (held : Option (List ℕ)) (before : ℕ) → text ≡ generated n → (r : ReadInput) → TellsReading (Err r) (reading text) → EndsDemo n held held before before (ending_of_input r)
  ends_read text held before is (input.Refused r) h =
      let both : Err r ≡ Ok (told_of (generated_board n) asked) = sym h ∙ (ap reading is ∙ generated-is-read n size.from size.to) in
      absurd cc
  ends_read text held before is input.NoMemory h = nothing_written held before

  -- what was read of the generated text are its board and its commands
  module _ (text : List ℕ) (i : Input) (is : text ≡ generated n) (read : reading text ≡ Ok (told_by i)) where
    commands_asked : i.commands ≡ asked
    commands_asked =
        let both : Ok (told_by i) ≡ Ok (told_of (generated_board n) asked) = sym read ∙ (ap reading is ∙ generated-is-read n size.from size.to) in
        let same : told_by i ≡ told_of (generated_board n) asked = cc in
        ap (λ (t : Told). t.commands) same

    pub of_generated : (P : BoardParts → List Command → Type 0) → P i.board.parts asked → IsOfGenerated n P
    of_generated P h = record {
      told = told_by i;
      read = ap reading (sym is) ∙ read;
      holds = subst (λ (cs : List Command). P i.board.parts cs) (sym commands_asked) h;
    }

    pub ends_demo : (held holds : Option (List ℕ)) (before after : ℕ) (e : Ending) → EndsSummary i.board.parts asked n held holds before after e → EndsDemo n held holds before after e
    ends_demo held holds before after BadWords h = h
    ends_demo held holds before after TooLong h = h
    ends_demo held holds before after (Refused r) h = h
    ends_demo held holds before after (Wrong m) h = h
    ends_demo held holds before after ReadFault h = h
    ends_demo held holds before after WriteFault h = (h.0, of_generated (λ b cs. SumsUpInPart b cs n held holds) h.1)
    ends_demo held holds before after NoMemory h = of_generated (λ b cs. AnswersFirst b true cs held holds) h
