-- A line of a text falls into the words of which it was made.
use Rattle.std.proofs.Common.{◌≡◌, ℕ, ◌-◌, ◌<◌, ◌≤◌, suc, zero, true, false, List, [], ◌∷◌, ◌++◌, length, get_or, map, refl, ap, ◌∙◌, arith, inl, inr}
use Rattle.std.specs.Prelude.{not, nat_le, nat_lt, codes}
use Rattle.std.specs.List.{flat_map, list_all, list_any, AllByRecursion}
use Rattle.std.proofs.lemmas.Bool.{ne_eqb, and_parts, leb-true, le-leb, ltb-true, cases_eq, cond-false, or_from, or_right}
use Rattle.std.proofs.lemmas.List.Elements.{recursion_from_All}
use Rattle.board_parts.specs.Rules.{IsWordByte, IsName}
use Rattle.board_reader.specs.declared.forms.Form.{Form}
use Rattle.board_reader.specs.declared.forms.Form.TheVariants as form
use Rattle.board_reader.specs.Forms.{spelling, form_of}
use Rattle.line_words.specs.Lines.{pieces, lines, onto, words, begins_word, is_blank, is_word_byte, is_other_byte, counts, without_return}
use Rattle.line_words.proofs.FirstWord.{words-blank, words-inside, words-last}
use Rattle.line_words.proofs.Pieces.{pieces-feed, pieces-other}
use Rattle.board_text.specs.Spelled.{spaced}
use Rattle.std.specs.Prelude.{Some}

-- a byte of a line: printable ASCII or the space
pub record IsPlain (b : ℕ) : Type 0 where
  pub from : 32 ≤ b
  pub to : b ≤ 126

-- a word that a line may hold
pub record IsGood (w : List ℕ) : Type 0 where
  pub some : 0 < length w
  pub bytes : AllByRecursion IsWordByte w

pub good-name : (w : List ℕ) → IsName w → IsGood w
good-name w h = record { some = h.some; bytes = recursion_from_All IsWordByte w h.word }

pub word-bytes : (w : List ℕ) → list_all is_word_byte w ≡ true → AllByRecursion IsWordByte w
word-bytes [] e = tt
word-bytes (b ∷ bs) e =
    let p = and_parts (is_word_byte b) (list_all is_word_byte bs) e in
    let q = and_parts (nat_le 33 b) (nat_le b 126) p.0 in
    (record { from = leb-true 33 b q.0; to = leb-true b 126 q.1 }, word-bytes bs p.1)

pub good-tested : (w : List ℕ) → nat_lt 0 (length w) ≡ true → list_all is_word_byte w ≡ true → IsGood w
good-tested w some each = record { some = ltb-true 0 (length w) some; bytes = word-bytes w each }

pub good-spelling : (f : Form) → IsGood (spelling f)
good-spelling form.Board = good-tested (codes "board") refl refl
good-spelling form.Layer = good-tested (codes "layer") refl refl
good-spelling form.Class = good-tested (codes "class") refl refl
good-spelling form.Rule = good-tested (codes "rule") refl refl
good-spelling form.Clear = good-tested (codes "clear") refl refl
good-spelling form.ViaKind = good-tested (codes "viakind") refl refl
good-spelling form.Pad = good-tested (codes "pad") refl refl
good-spelling form.Inner = good-tested (codes "inner") refl refl
good-spelling form.Block = good-tested (codes "block") refl refl
good-spelling form.Keepout = good-tested (codes "keepout") refl refl
good-spelling form.Net = good-tested (codes "net") refl refl
good-spelling form.Pin = good-tested (codes "pin") refl refl
good-spelling form.End = good-tested (codes "end") refl refl
good-spelling form.Route = good-tested (codes "route") refl refl
good-spelling form.All = good-tested (codes "all") refl refl
good-spelling form.Rip = good-tested (codes "rip") refl refl
good-spelling form.Show = good-tested (codes "show") refl refl
good-spelling form.Rules = good-tested (codes "rules") refl refl
good-spelling form.Strips = good-tested (codes "strips") refl refl

-- the first word of a form names it
pub form-spelled : (f : Form) → form_of (spelling f) ≡ Some f
unfolding form_of
form-spelled form.Board = refl
form-spelled form.Layer = refl
form-spelled form.Class = refl
form-spelled form.Rule = refl
form-spelled form.Clear = refl
form-spelled form.ViaKind = refl
form-spelled form.Pad = refl
form-spelled form.Inner = refl
form-spelled form.Block = refl
form-spelled form.Keepout = refl
form-spelled form.Net = refl
form-spelled form.Pin = refl
form-spelled form.End = refl
form-spelled form.Route = refl
form-spelled form.All = refl
form-spelled form.Rip = refl
form-spelled form.Show = refl
form-spelled form.Rules = refl
form-spelled form.Strips = refl

pub counts-spelled : (f : Form) (rest : List ℕ) → counts (spelling f ++ rest) ≡ true
counts-spelled form.Board rest = refl
counts-spelled form.Layer rest = refl
counts-spelled form.Class rest = refl
counts-spelled form.Rule rest = refl
counts-spelled form.Clear rest = refl
counts-spelled form.ViaKind rest = refl
counts-spelled form.Pad rest = refl
counts-spelled form.Inner rest = refl
counts-spelled form.Block rest = refl
counts-spelled form.Keepout rest = refl
counts-spelled form.Net rest = refl
counts-spelled form.Pin rest = refl
counts-spelled form.End rest = refl
counts-spelled form.Route rest = refl
counts-spelled form.All rest = refl
counts-spelled form.Rip rest = refl
counts-spelled form.Show rest = refl
counts-spelled form.Rules rest = refl
counts-spelled form.Strips rest = refl

no-blank : (b : ℕ) → IsWordByte b → is_blank b ≡ false
no-blank b h = or_from _ _ (ne_eqb b 32 (λ e. omega (arith, h.from))) (ne_eqb b 9 (λ e. omega (arith, h.from)))

word-then : (w rest : List ℕ) → 0 < length w → AllByRecursion IsWordByte w → begins_word rest ≡ false → words (w ++ rest) ≡ w ∷ words rest
word-then [] rest some h e = absurd (omega arith)
word-then (b ∷ []) rest some h e = words-last b rest (no-blank b h.0) e
word-then (b ∷ c ∷ bs) rest some h e =
    let begins : begins_word ((c ∷ bs) ++ rest) ≡ true = ap not (no-blank c h.1.0) in
    words-inside b ((c ∷ bs) ++ rest) (no-blank b h.0) begins ∙ ap (onto b) (word-then (c ∷ bs) rest (omega arith) h.1 e)

no-word : (ws : List (List ℕ)) → begins_word (flat_map spaced ws) ≡ false
no-word [] = refl
no-word (w ∷ ws) = refl

rest-words : (ws : List (List ℕ)) → AllByRecursion IsGood ws → words (flat_map spaced ws) ≡ ws
unfolding words
rest-words [] h = refl
rest-words (w ∷ ws) h =
    words-blank 32 (w ++ flat_map spaced ws) refl
    ∙ (word-then w (flat_map spaced ws) h.0.some h.0.bytes (no-word ws) ∙ ap (λ vs. w ∷ vs) (rest-words ws h.1))

-- the words of a line of single spaces
pub line-words : (w : List ℕ) (ws : List (List ℕ)) → IsGood w → AllByRecursion IsGood ws → words (w ++ flat_map spaced ws) ≡ w ∷ ws
line-words w ws g h = word-then w (flat_map spaced ws) g.some g.bytes (no-word ws) ∙ ap (λ vs. w ∷ vs) (rest-words ws h)

plain-word : (w : List ℕ) → AllByRecursion IsWordByte w → AllByRecursion IsPlain w
plain-word [] h = tt
plain-word (b ∷ bs) h = (record { from = omega (arith, h.0.from); to = h.0.to }, plain-word bs h.1)

plain-append : (v w : List ℕ) → AllByRecursion IsPlain v → AllByRecursion IsPlain w → AllByRecursion IsPlain (v ++ w)
plain-append [] w g h = h
plain-append (b ∷ bs) w g h = (g.0, plain-append bs w g.1 h)

plain-rest : (ws : List (List ℕ)) → AllByRecursion IsGood ws → AllByRecursion IsPlain (flat_map spaced ws)
plain-rest [] h = tt
plain-rest (w ∷ ws) h =
    (record { from = omega arith; to = omega arith }, plain-append w (flat_map spaced ws) (plain-word w h.0.bytes) (plain-rest ws h.1))

-- the bytes of a line of single spaces
pub line-plain : (w : List ℕ) (ws : List (List ℕ)) → IsGood w → AllByRecursion IsGood ws → AllByRecursion IsPlain (w ++ flat_map spaced ws)
line-plain w ws g h = plain-append w (flat_map spaced ws) (plain-word w g.bytes) (plain-rest ws h)

plain-byte : (b : ℕ) → IsPlain b → is_other_byte b ≡ false
plain-byte b h =
    elim (cases_eq b 32) [
      | inl e ↦ rw e refl
      | inr n ↦
          let low : nat_le 33 b ≡ true = le-leb 33 b (omega (arith, h.from)) in
          let high : nat_le b 126 ≡ true = le-leb b 126 h.to in
          let one : is_word_byte b ≡ true = rw (low, high) refl in
          ap not (or_right (is_blank b) (is_word_byte b) one)
    ]

pub no-other : (line : List ℕ) → AllByRecursion IsPlain line → list_any is_other_byte line ≡ false
no-other [] h = refl
no-other (b ∷ bs) h = or_from _ _ (plain-byte b h.0) (no-other bs h.1)

first-piece : (p rest : List ℕ) → AllByRecursion IsPlain p → pieces (p ++ 10 ∷ rest) ≡ p ∷ pieces rest
first-piece [] rest h = pieces-feed 10 rest refl
first-piece (b ∷ bs) rest h = pieces-other b (bs ++ 10 ∷ rest) (λ e. omega (arith, h.0.from)) ∙ ap (onto b) (first-piece bs rest h.1)

no-return : (p : List ℕ) (k : ℕ) → AllByRecursion IsPlain p → get_or p k 0 ≡ 13 → ⊥
no-return [] k h e = omega arith
no-return (b ∷ bs) zero h e = omega (arith, h.0.from)
no-return (b ∷ bs) (suc k) h e = no-return bs k h.1 e

kept-whole : (p : List ℕ) → AllByRecursion IsPlain p → without_return p ≡ p
kept-whole p h = cond-false _ _ _ (ne_eqb (get_or p (length p - 1) 0) 13 (no-return p (length p - 1) h))

pub first-line : (p rest : List ℕ) → AllByRecursion IsPlain p → lines (p ++ 10 ∷ rest) ≡ p ∷ lines rest
first-line p rest h = ap (map without_return) (first-piece p rest h) ∙ ap (λ q. q ∷ lines rest) (kept-whole p h)
