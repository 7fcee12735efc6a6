-- What the whole text spells, and which line of it is refused.
use Rattle.std.proofs.Common.{◌≡◌, ℕ, ◌+◌, ◌-◌, ◌<◌, ◌≤◌, List, [], ◌∷◌, ◌++◌, length, drop, All, Err, refl, sym, ap, ◌∙◌, subst, arith, length-append, length-drop, false, inl, inr}
use Rattle.std.specs.List.{flat_map}
use Rattle.std.proofs.lemmas.List.{append-nil}
use Rattle.std.proofs.lemmas.List.Elements.{All-from_recursion, recursion_from_All}
use Rattle.board_parts.specs.declared.parts.BoardParts.{BoardParts}
use Rattle.board_parts.specs.Rules.{IsBoard}
use Rattle.route_law.specs.declared.replies.Reply.{Reply}
use Rattle.reply_text.specs.Texts.{reply_text}
use Rattle.reply_reader.specs.declared.places.Place.{Place}
use Rattle.reply_reader.specs.declared.readings.ReadReplies.{ReadReplies}
use Rattle.reply_reader.specs.declared.readings.ReadReplies.TheVariants.{Refused, NoMemory}
use Rattle.reply_reader.specs.Places.{Begins, lines_text, StopsAt}
use Rattle.reply_reader.specs.Parts.{counted, IsPassed, IsRead, Tells}
use Rattle.reply_reader.specs.Blocks.{reply_block}
use Rattle.reply_reader.specs.Readings.{IsReadingOf, IsRepliesText, TellsRefusal}
use Rattle.reply_reader.proofs.Composing.{IsAllOf, refused_last, one_list}
use Rattle.reply_reader.proofs.Exits.{reply_one, reply_long}

pub reading_of : (b : BoardParts) (bytes : List ℕ) (rs : List Reply) → All (reply_block b).IsGood rs → flat_map (reply_text b false) rs ≡ bytes → IsReadingOf b bytes rs
reading_of b bytes rs good is = record {
  regular = λ k d lt. (good k d lt).0;
  in_range = λ k d lt. (good k d lt).1;
  text = is;
}

good_of : (b : BoardParts) (bytes : List ℕ) (rs : List Reply) → IsReadingOf b bytes rs → All (reply_block b).IsGood rs
good_of b bytes rs r k d lt = (r.regular k d lt, r.in_range k d lt)

all_of : (b : BoardParts) (bytes : List ℕ) → IsRepliesText b bytes → IsAllOf (reply_block b) bytes
all_of b bytes t = record {
  values = t.replies;
  good = recursion_from_All (reply_block b).IsGood t.replies (good_of b bytes t.replies t.reading);
  is = t.reading.text;
}

text_of : (b : BoardParts) (bytes : List ℕ) → IsAllOf (reply_block b) bytes → IsRepliesText b bytes
text_of b bytes a = record {
  replies = a.values;
  reading = reading_of b bytes a.values (All-from_recursion (reply_block b).IsGood a.values a.good) a.is;
}

stops : (b : BoardParts) (bytes : List ℕ) (n : ℕ) → StopsAt (IsAllOf (reply_block b)) bytes n → StopsAt (IsRepliesText b) bytes n
stops b bytes n s = record {
  lines = s.lines;
  after = s.after;
  cut = s.cut;
  each = s.each;
  number = s.number;
  begun = record { rest = s.begun.rest; text = text_of b (lines_text s.lines ++ s.begun.rest) s.begun.text };
  stop = elim s.stop [
    | inl w ↦ inl (record {
      line = w.line;
      rest = w.rest;
      next = w.next;
      one = w.one;
      wrong = λ (g : Begins (IsRepliesText b) (lines_text s.lines ++ w.line ++ 10 ∷ [])).
          w.wrong (record { rest = g.rest; text = all_of b (lines_text s.lines ++ w.line ++ 10 ∷ [] ++ g.rest) g.text });
    })
    | inr m ↦ inr m
  ];
}

pub refused_whole : (b : BoardParts) → IsBoard b → (bytes : List ℕ) (old mid new : Place) (rs : List Reply) (e : ReadReplies) → old.at ≡ 0 → old.line ≡ 1
    → mid.at < length bytes → IsRead (counted (length rs) (reply_block b)) bytes old mid rs → Tells (reply_block b) bytes mid new (Err e) → TellsRefusal b bytes e
refused_whole b kept bytes old mid new rs (Refused n) at line more r f =
    let start : IsPassed bytes 1 (flat_map (reply_block b).text rs) (drop mid.at bytes) mid.line =
    subst (λ (l : ℕ). IsPassed bytes l (flat_map (reply_block b).text rs) (drop mid.at bytes) mid.line) line
    (subst (λ (k : ℕ). IsPassed (drop k bytes) old.line (flat_map (reply_block b).text rs) (drop mid.at bytes) mid.line) at r.passed) in
    let some : 0 < length (drop mid.at bytes) = omega (arith, length-drop mid.at bytes) in
    let last = refused_last (reply_block b) (reply_one b kept) rs (recursion_from_All (reply_block b).IsGood rs r.good.1) bytes (drop mid.at bytes) mid.line n some start f in
    record { none = λ t. last.0 (all_of b bytes t); place = stops b bytes n last.1 }
refused_whole b kept bytes old mid new rs NoMemory at line more r f = tt

pub read_whole : (b : BoardParts) (bytes : List ℕ) (old mid : Place) (rs : List Reply) → old.at ≡ 0 → length bytes ≤ mid.at
    → IsRead (counted (length rs) (reply_block b)) bytes old mid rs → IsReadingOf b bytes rs
read_whole b bytes old mid rs at done r =
    let none : length (drop mid.at bytes) ≡ 0 = omega (arith, length-drop mid.at bytes) in
    let whole : drop old.at bytes ≡ bytes = ap (λ (k : ℕ). drop k bytes) at in
    reading_of b bytes rs r.good.1 (sym (sym whole ∙ r.passed.cut ∙ ap (λ (t : List ℕ). flat_map (reply_text b false) rs ++ t) (nothing (drop mid.at bytes) none) ∙ append-nil (flat_map (reply_text b false) rs)))
  where
    nothing : (l : List ℕ) → length l ≡ 0 → l ≡ []
    nothing [] e = refl
    nothing (x ∷ l) e = absurd (omega arith)

-- each reply takes some bytes
pub goes_on : (b : BoardParts) → IsBoard b → (bytes : List ℕ) (old new : Place) (r : Reply) → old.at < length bytes → IsRead (reply_block b) bytes old new r → length bytes - new.at < length bytes - old.at
goes_on b kept bytes old new r more read =
    let some = reply_long b kept r read.good in
    let cut : length bytes - old.at ≡ length (reply_text b false r) + (length bytes - new.at) =
    sym (length-drop old.at bytes) ∙ ap length read.passed.cut ∙ length-append (reply_text b false r) (drop new.at bytes) ∙ ap (λ (k : ℕ). length (reply_text b false r) + k) (length-drop new.at bytes) in
    omega arith

pub one_reading : (b : BoardParts) → IsBoard b → (bytes : List ℕ) (rs ss : List Reply) → IsReadingOf b bytes rs → IsReadingOf b bytes ss → rs ≡ ss
one_reading b kept bytes rs ss r s =
    one_list (reply_block b) (reply_one b kept) rs ss
    (recursion_from_All (reply_block b).IsGood rs (good_of b bytes rs r)) (recursion_from_All (reply_block b).IsGood ss (good_of b bytes ss s))
    (reply_long b kept) (r.text ∙ sym s.text)
