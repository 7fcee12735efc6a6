-- The words of a line without other bytes are words of a board.
use Rattle.std.proofs.Common.{◌≡◌, ℕ, false, List, [], ◌∷◌, All, sym, ◌∙◌, arith, inl, inr, subst}
use Rattle.std.specs.Prelude.{◌||◌, nat_le}
use Rattle.std.specs.List.{list_any, AllByRecursion}
use Rattle.std.proofs.lemmas.Bool.{cases_Bool, leb-true, and_parts, or_cases, not-false, false≢true}
use Rattle.std.proofs.lemmas.List.Elements.{All-cons, All-nil, All-from_recursion}
use Rattle.board_parts.specs.Rules.{IsWordByte}
use Rattle.board_reader.specs.Kept.{IsWord}
use Rattle.line_words.specs.Lines.{words, onto, is_blank, is_word_byte, is_other_byte, begins_word}
use Rattle.line_words.proofs.FirstWord.{words-blank, words-inside, words-last}
use Rattle.board_reader.proofs.Unbroken.{or-left, or-right}

word-byte : (b : ℕ) → is_blank b ≡ false → is_other_byte b ≡ false → IsWordByte b
word-byte b blank other =
    elim (or_cases (is_blank b) (is_word_byte b) (not-false (is_blank b || is_word_byte b) other)) [
      | inl e ↦ absurd (false≢true (sym blank ∙ e))
      | inr e ↦ let p = and_parts (nat_le 33 b) (nat_le b 126) e in record { from = leb-true 33 b p.0; to = leb-true b 126 p.1 }
    ]

word-cons : (b : ℕ) (p : List ℕ) → IsWordByte b → All IsWordByte p → IsWord (b ∷ p)
word-cons b p h w = record { some = omega arith; each = All-cons IsWordByte b p h w }

onto-good : (b : ℕ) (ps : List (List ℕ)) → IsWordByte b → AllByRecursion IsWord ps → AllByRecursion IsWord (onto b ps)
onto-good b [] h w = (word-cons b [] h (All-nil IsWordByte), tt)
onto-good b (p ∷ ps) h w = (word-cons b p h w.0.each, w.1)

words-good : (line : List ℕ) → list_any is_other_byte line ≡ false → AllByRecursion IsWord (words line)
unfolding words
words-good [] e = tt
words-good (b ∷ bs) e =
    let here = or-left (is_other_byte b) (list_any is_other_byte bs) e in
    let rest = words-good bs (or-right (is_other_byte b) (list_any is_other_byte bs) e) in
    elim (cases_Bool (is_blank b)) [
      | inl blank ↦ subst (λ ws. AllByRecursion IsWord ws) (sym (words-blank b bs blank)) rest
      | inr solid ↦ elim (cases_Bool (begins_word bs)) [
        | inl inside ↦ subst (λ ws. AllByRecursion IsWord ws) (sym (words-inside b bs solid inside)) (onto-good b (words bs) (word-byte b solid here) rest)
        | inr last ↦ subst (λ ws. AllByRecursion IsWord ws) (sym (words-last b bs solid last)) (word-cons b [] (word-byte b solid here) (All-nil IsWordByte), rest)
      ]
    ]

pub words-are-words : (line : List ℕ) → list_any is_other_byte line ≡ false → All IsWord (words line)
words-are-words line e = All-from_recursion IsWord (words line) (words-good line e)
