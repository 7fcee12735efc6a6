-- How the parts of a check come together.
use Rattle.std.proofs.Common.{◌≡◌, ℕ, ◌+◌, ◌-◌, ◌≤◌, ◌<◌, ◌==◌, Bool, true, false, cond, List, [], ◌∷◌, ◌++◌, length, map, take, drop, Option, Some, None, Ok, Err, Result, refl, sym, ap, ◌∙◌, subst, inl, inr, arith}
use Rattle.std.proofs.lemmas.List.{length-append, length-drop, take_all}
use Rattle.std.specs.List.{flat_map}
use Rattle.board_parts.specs.declared.parts.BoardParts.{BoardParts}
use Rattle.line_words.specs.Lines.{onto, pieces, lines, without_return}
use Rattle.board_reader.specs.Reading.{reading, Told}
use Rattle.board_reader.specs.Splits.{split_of}
use Rattle.board_reader.specs.declared.refusals.Refusal.{Refusal}
use Rattle.board_reader.specs.declared.splits.Split.{Split}
use Rattle.call_words.specs.Asked.{Check}
use Rattle.reply_reader.specs.Places.{lines_text, StopsAt}
use Rattle.reply_reader.specs.Readings.{IsReadingOf, TellsRefusal}
use Rattle.reply_reader.specs.declared.readings.ReadReplies.{ReadReplies}
use Rattle.reply_reader.specs.declared.readings.ReadReplies.TheVariants as read
use Rattle.route_law.specs.declared.replies.Reply.{Reply}
use Rattle.route_law.specs.Steps.{IsRun}
use Rattle.contour_core.specs.declared.endings.Ending.{Ending}
use Rattle.contour_core.specs.declared.endings.Ending.TheVariants.{BadWords, TooLong, Refused, Wrong, ReadFault, WriteFault, NoMemory}
use Rattle.contour_core.specs.Causes.{EndsCall}
use Rattle.contour_core.specs.Checked.{EndsJudging, EndsParts, EndsReplies, EndsTelling, FindsRight, FindsRightInPart, FindsWrong, IsCheckedAs, IsRefusedPart, TellsRight}
use Rattle.contour_core.specs.Endings.{EndsSending}
use Rattle.contour_core.specs.Inputs.{IfTold}
use Rattle.contour_core.specs.Texts.{right_text}
use Rattle.contour_core.proofs.Ended.{if_told-weaker}

few-onto : (b : ℕ) (ps : List (List ℕ)) (n : ℕ) → length ps ≤ n → length (onto b ps) ≤ n + 1
few-onto b [] n h = omega arith
few-onto b (p ∷ ps) n h = omega (arith, h)

few-pieces : (b : ℕ) (bs : List ℕ) (c : Bool) → length (pieces bs) ≤ length bs → length (cond c ([] ∷ pieces bs) (onto b (pieces bs))) ≤ length bs + 1
few-pieces b bs true h = omega (arith, h)
few-pieces b bs false h = few-onto b (pieces bs) (length bs) h

-- a text has no more lines than bytes
pub pieces-few : (text : List ℕ) → length (pieces text) ≤ length text
pieces-few [] = omega arith
pieces-few (b ∷ bs) = omega (arith, few-pieces b bs (b == 10) (pieces-few bs))

-- whole lines have no fewer bytes than there are of them
lines-few : (ls : List (List ℕ)) → length ls ≤ length (lines_text ls)
lines-few [] = omega arith
lines-few (l ∷ ls) = omega (arith, lines-few ls, length-append (l ++ 10 ∷ []) (lines_text ls), length-append l (10 ∷ []))

-- the refused line is one of the text, or the next
pub stop-few : (L : List ℕ → Type 0) (bytes : List ℕ) (n : ℕ) → StopsAt L bytes n → n ≤ length bytes + 1
stop-few L bytes n h =
    let e : length bytes ≡ length (lines_text h.lines ++ h.after) = ap length h.cut in
    omega (arith, h.number, lines-few h.lines, e, length-append (lines_text h.lines) h.after)

pub refused-few : (b : BoardParts) (bytes : List ℕ) (e : ReadReplies) (n : ℕ) → e ≡ read.Refused n → TellsRefusal b bytes e → n ≤ length bytes + 1
refused-few b bytes e n same h =
    let r = subst (TellsRefusal b bytes) same h in
    stop-few _ bytes n r.place

-- what stands from a place on
pub tail : (n : ℕ) (bytes : List ℕ) → take (length bytes - n) (drop n bytes) ≡ drop n bytes
tail n bytes = take_all (length bytes - n) (drop n bytes) (omega (arith, length-drop n bytes))

module _ (bytes : List ℕ) (short : length bytes ≤ 268435456) (split : Split) (is : split_of bytes ≡ Some split) (told : Told) (board : reading (take split.text_end bytes) ≡ Ok told) where
  pub checked-parts : (replies : List Reply) → IsReadingOf told.parts (drop split.replies_start bytes) replies → IsCheckedAs told replies bytes
  checked-parts replies h = record { short = short; split = split; is_split = is; board = board; read = h }

  pub ends-parts : (e : Ending) → EndsReplies told.parts (drop split.replies_start bytes) split.lines e → EndsParts bytes e
  ends-parts BadWords h = h
  ends-parts TooLong h = h
  ends-parts (Refused r) h =
      let P : Option Split → Type 0 = IsRefusedPart bytes r in
      record { short = short; part = subst P (sym is) (inr (record { told = told; read = board; number = h.number; refused = h.refused; line = h.line; kind = h.kind })) }
  ends-parts (Wrong n) h = h
  ends-parts ReadFault h = h
  ends-parts WriteFault h = h
  ends-parts NoMemory h = h

module _ (told : Told) (replies : List Reply) where
  -- an ending of the judging, before anything was written
  pub ends-judged : (held : Option (List ℕ)) (before after : ℕ) (e : Ending) → EndsJudging told replies e → EndsTelling told replies held held before after e
  ends-judged held before after BadWords h = h
  ends-judged held before after TooLong h = h
  ends-judged held before after (Refused r) h = h
  ends-judged held before after (Wrong n) h = h
  ends-judged held before after ReadFault h = absurd h
  ends-judged held before after WriteFault h = absurd h
  ends-judged held before after NoMemory h = refl

  -- an ending of the writing of the line, where the replies are right
  pub ends-told : IsRun told.parts told.commands replies → (held holds : Option (List ℕ)) (before after : ℕ) (e : Ending) → EndsSending (right_text (length replies)) held holds before after e → EndsTelling told replies held holds before after e
  ends-told run held holds before after BadWords h = h
  ends-told run held holds before after TooLong h = h
  ends-told run held holds before after (Refused r) h = h
  ends-told run held holds before after (Wrong n) h = absurd h
  ends-told run held holds before after ReadFault h = h
  ends-told run held holds before after WriteFault h = (h.0, record { run = run; written = h.1 })
  ends-told run held holds before after NoMemory h = h

  module _ (left : Option (List ℕ)) (ok : IfTold left (IsCheckedAs told replies)) where
    pub finds-right : (held holds : Option (List ℕ)) → TellsRight told replies held holds → IfTold left (FindsRight held holds)
    finds-right held holds h =
        if_told-weaker left (IsCheckedAs told replies) (FindsRight held holds) (λ bytes checked. record { replies = replies; right = record { told = told; checked = checked; run = h.run }; written = h.written }) ok

    -- an ending of a check after the input was read
    pub ends-checked : (reads reads' : ℕ) (held holds : Option (List ℕ)) (writes writes' : ℕ) (e : Ending) → EndsTelling told replies held holds writes writes' e → EndsCall Check left reads reads' held holds writes writes' e
    ends-checked reads reads' held holds writes writes' BadWords h = h
    ends-checked reads reads' held holds writes writes' TooLong h = absurd h
    ends-checked reads reads' held holds writes writes' (Refused r) h = absurd h
    ends-checked reads reads' held holds writes writes' (Wrong n) h =
        if_told-weaker left (IsCheckedAs told replies) (FindsWrong n) (λ bytes checked. record { told = told; replies = replies; checked = checked; wrong = h }) ok
    ends-checked reads reads' held holds writes writes' ReadFault h = absurd h
    ends-checked reads reads' held holds writes writes' WriteFault h =
        (h.0, if_told-weaker left (IsCheckedAs told replies) (FindsRightInPart held holds) (λ bytes checked. record { replies = replies; right = record { told = told; checked = checked; run = h.1.run }; written = h.1.written }) ok)
    ends-checked reads reads' held holds writes writes' NoMemory h = h
