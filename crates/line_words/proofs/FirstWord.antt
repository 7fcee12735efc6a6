-- How a line falls into its first word and the rest.
use Rattle.std.proofs.Common.{◌≡◌, ℕ, ◌+◌, ◌-◌, ◌<◌, suc, true, false, List, [], ◌∷◌, ◌++◌, length, take, drop, refl, sym, ap, ◌∙◌, arith, inl, inr}
use Rattle.std.specs.Prelude.{not}
use Rattle.std.specs.List.{prefix_len}
use Rattle.std.proofs.lemmas.Bool.{cases_Bool, false≢true}
use Rattle.std.proofs.lemmas.Grind.{common_steps}
use Rattle.line_words.specs.Lines.{words, onto, is_blank, after_blanks, begins_word}

-- how far the first word goes
abbrev pub front_length : List ℕ → ℕ
front_length = prefix_len (λ b. not (is_blank b))

pub words-blank : (b : ℕ) (bs : List ℕ) → is_blank b ≡ true → words (b ∷ bs) ≡ words bs
unfolding words
words-blank b bs e = rw e

pub words-inside : (b : ℕ) (bs : List ℕ) → is_blank b ≡ false → begins_word bs ≡ true → words (b ∷ bs) ≡ onto b (words bs)
unfolding words
words-inside b bs e f = rw (e, f)

pub words-last : (b : ℕ) (bs : List ℕ) → is_blank b ≡ false → begins_word bs ≡ false → words (b ∷ bs) ≡ (b ∷ []) ∷ words bs
unfolding words
words-last b bs e f = rw (e, f)

pub words-after_blanks : (line : List ℕ) → words (after_blanks line) ≡ words line
words-after_blanks [] = refl
words-after_blanks (b ∷ bs) =
    elim (cases_Bool (is_blank b)) [ inl e ↦ rw e (words-after_blanks bs ∙ sym (words-blank b bs e)) | inr e ↦ rw e refl ]

pub begins-after_blanks : (line : List ℕ) → 0 < length (after_blanks line) → begins_word (after_blanks line) ≡ true
begins-after_blanks [] some = absurd (omega arith)
begins-after_blanks (b ∷ bs) some =
    elim (cases_Bool (is_blank b)) [ inl e ↦ rw e (begins-after_blanks bs (rw e at some)) | inr e ↦ rw (e, e) refl ]

-- where the first byte is no blank, the front is one longer
front_length-cons : (b : ℕ) (bs : List ℕ) → is_blank b ≡ false → front_length (b ∷ bs) ≡ suc (front_length bs)
front_length-cons b bs e = rw e (omega arith)

no_front : (bs : List ℕ) → begins_word bs ≡ false → front_length bs ≡ 0
no_front [] e = refl
no_front (b ∷ bs) e = rw e

pub words-cut : (line : List ℕ) → begins_word line ≡ true → words line ≡ take (front_length line) line ∷ words (drop (front_length line) line)
words-cut [] begins = absurd (false≢true begins)
words-cut (b ∷ bs) begins =
    let e : is_blank b ≡ false = grind arith in
    elim (cases_Bool (begins_word bs)) [
      | inl f ↦ words-inside b bs e f ∙ (ap (onto b) (words-cut bs f) ∙ ap (λ n. take n (b ∷ bs) ∷ words (drop n (b ∷ bs))) (sym (front_length-cons b bs e)))
      | inr f ↦ words-last b bs e f ∙ ap (λ n. take n (b ∷ bs) ∷ words (drop n (b ∷ bs))) (sym (front_length-cons b bs e ∙ ap (λ n. suc n) (no_front bs f)))
    ]

-- one more of at most n items
pub take-next : (n : ℕ) (front : List (List ℕ)) (w : List ℕ) (ws all : List (List ℕ)) (k : ℕ)
    → k < n → front ++ take (n - k) (w ∷ ws) ≡ all → (front ++ w ∷ []) ++ take (n - (k + 1)) ws ≡ all
take-next n front w ws all k lt h =
    let one : n - k ≡ suc (n - (k + 1)) = omega arith in
    let next : take (n - k) (w ∷ ws) ≡ w ∷ take (n - (k + 1)) ws = rw one refl in
    grind (arith, common_steps)

pub words-empty : (line rest : List ℕ) → rest ≡ after_blanks line → length rest ≡ 0 → words line ≡ []
unfolding words
words-empty line [] e h = sym (words-after_blanks line) ∙ ap words (sym e)
words-empty line (b ∷ bs) e h = absurd (omega arith)

-- the first word stands in front of what is left after the blanks
pub words-first : (line rest : List ℕ) (n : ℕ) → rest ≡ after_blanks line → 0 < length rest → n ≡ front_length rest
    → words line ≡ take n rest ∷ words (drop n rest)
words-first line rest n e some is =
    let begins : begins_word rest ≡ true = ap begins_word e ∙ begins-after_blanks line (rw e at some) in
    (sym (words-after_blanks line) ∙ ap words (sym e)) ∙ (words-cut rest begins ∙ ap (λ k. take k rest ∷ words (drop k rest)) (sym is))
