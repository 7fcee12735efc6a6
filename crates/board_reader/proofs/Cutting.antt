-- The cut of a text whose first line is the one that is sought, or another.
use Rattle.std.proofs.Common.{◌≡◌, ℕ, ◌+◌, ◌-◌, ◌≤◌, suc, min, inl, inr, Bool, true, false, cond, ltb, List, [], ◌∷◌, Option, Some, None, length, take, map, refl, sym, ap, ◌∙◌, arith, add-one}
use Rattle.std.specs.Prelude.{position}
use Rattle.std.specs.List.{sum_by, position_or_len}
use Rattle.std.specs.Option.{option_map}
use Rattle.std.proofs.lemmas.Bool.{cases_lt, cond-true}
use Rattle.std.proofs.lemmas.Bool.Decides.{nat_tests}
use Rattle.std.proofs.lemmas.List.Sums.{sum_by-cons}
use Rattle.board_reader.specs.declared.splits.Split.{Split}
use Rattle.line_words.specs.Lines.{pieces, lines, without_return}
use Rattle.board_reader.specs.Splits.{is_mark, bytes_of, split_at, split_of}

-- the first line with what ends it, and what follows
pub record IsCut (text piece rest : List ℕ) : Type 0 where
  pub falls : pieces text ≡ piece ∷ pieces rest
  pub bytes : min (length text) (length piece + 1) + length rest ≡ length text

pub position-here : {X : Type 0} (p : X → Bool) (x : X) (xs : List X) → p x ≡ true → position p (x ∷ xs) ≡ Some 0
position-here p x xs e = let t : ltb 0 (suc (length xs)) ≡ true = grind (arith, nat_tests) in rw e (cond-true _ _ _ t)

one-further : (n m : ℕ) → cond (ltb (1 + n) (suc m)) (Some (1 + n)) None ≡ option_map (λ (k : ℕ). k + 1) (cond (ltb n m) (Some n) None)
one-further n m =
    elim (cases_lt n m) [
      | inl h ↦ let a : ltb n m ≡ true = grind (arith, nat_tests) in let b : ltb (1 + n) (suc m) ≡ true = grind (arith, nat_tests) in rw (a, b) (ap (λ k. Some k) (omega arith))
      | inr h ↦ let a : ltb n m ≡ false = grind (arith, nat_tests) in let b : ltb (1 + n) (suc m) ≡ false = grind (arith, nat_tests) in rw (a, b) refl
    ]

pub position-later : {X : Type 0} (p : X → Bool) (x : X) (xs : List X) → p x ≡ false → position p (x ∷ xs) ≡ option_map (λ (k : ℕ). k + 1) (position p xs)
position-later p x xs e = rw e (one-further (position_or_len p xs) (length xs))

first-line : (text piece rest : List ℕ) → IsCut text piece rest → lines text ≡ without_return piece ∷ lines rest
first-line text piece rest c = ap (map without_return) c.falls

-- a line further
bytes-later : (text piece rest : List ℕ) → IsCut text piece rest → (n : ℕ) → bytes_of text (n + 1) ≡ (length text - length rest) + bytes_of rest n
bytes-later text piece rest c n =
    let size : List ℕ → ℕ = λ p. length p + 1 in
    let cut : take (n + 1) (pieces text) ≡ piece ∷ take n (pieces rest) = rw (c.falls, add-one) refl in
    let sum : sum_by size (take (n + 1) (pieces text)) ≡ (length piece + 1) + sum_by size (take n (pieces rest)) = ap (sum_by size) cut ∙ sum_by-cons size piece (take n (pieces rest)) in
    omega (arith, c.bytes, sum)

bytes-none : (text : List ℕ) → bytes_of text 0 ≡ 0
bytes-none text = omega arith

-- the same cut, with so many bytes and lines more in front
abbrev pub counted_after : ℕ → ℕ → Split → Split
counted_after bytes n s = record { text_end = bytes + s.text_end; replies_start = bytes + s.replies_start; lines = n + s.lines }

abbrev split : ℕ → ℕ → ℕ → Split
split e s n = record { text_end = e; replies_start = s; lines = n }

same-split : (e s n e' s' n' : ℕ) → e ≡ e' → s ≡ s' → n ≡ n' → split e s n ≡ split e' s' n'
same-split e s n e' s' n' p q r = λ i. split (p i) (q i) (r i)

-- where the first line is the one that is sought
split-here : (text piece rest : List ℕ) → IsCut text piece rest → is_mark (without_return piece) ≡ true → split_of text ≡ Some (split 0 (length text - length rest) 1)
unfolding split_of
split-here text piece rest c m =
    let place = ap (position is_mark) (first-line text piece rest c) ∙ position-here is_mark (without_return piece) (lines rest) m in
    let none = bytes-none rest in
    let one = bytes-later text piece rest c 0 in
    ap (option_map (split_at text)) place ∙ ap (λ s. Some s) (same-split _ _ _ _ _ _ (bytes-none text) (omega (arith, one, none)) refl)

later-place : (text piece rest : List ℕ) → IsCut text piece rest → (o : Option ℕ)
    → option_map (split_at text) (option_map (λ (k : ℕ). k + 1) o) ≡ option_map (counted_after (length text - length rest) 1) (option_map (split_at rest) o)
later-place text piece rest c None = refl
later-place text piece rest c (Some k) = ap (λ s. Some s) (same-split _ _ _ _ _ _ (bytes-later text piece rest c k) (bytes-later text piece rest c (k + 1)) (omega arith))

-- where it is another
split-later : (text piece rest : List ℕ) → IsCut text piece rest → is_mark (without_return piece) ≡ false
    → split_of text ≡ option_map (counted_after (length text - length rest) 1) (split_of rest)
unfolding split_of
split-later text piece rest c m =
    let place = ap (position is_mark) (first-line text piece rest c) ∙ position-later is_mark (without_return piece) (lines rest) m in
    ap (option_map (split_at text)) place ∙ later-place text piece rest c (position is_mark (lines rest))

counted-none : (o : Option Split) (bytes : ℕ) → bytes ≡ 0 → option_map (counted_after bytes 0) o ≡ o
counted-none None bytes e = refl
counted-none (Some s) bytes e = ap (λ x. Some x) (same-split _ _ _ _ _ _ (omega arith) (omega arith) (omega arith))

-- before the first line
pub cut-start : (text : List ℕ) → option_map (counted_after (length text - length text) 0) (split_of text) ≡ split_of text
cut-start text = counted-none (split_of text) (length text - length text) (omega arith)

counted-twice : (o : Option Split) (a b c n : ℕ) → a + b ≡ c → option_map (counted_after a n) (option_map (counted_after b 1) o) ≡ option_map (counted_after c (n + 1)) o
counted-twice None a b c n e = refl
counted-twice (Some s) a b c n e = ap (λ x. Some x) (same-split _ _ _ _ _ _ (omega arith) (omega arith) (omega arith))

-- a line that is another is passed
pub cut-later : (text rest piece after : List ℕ) (n : ℕ) → IsCut rest piece after → is_mark (without_return piece) ≡ false → length rest ≤ length text
    → option_map (counted_after (length text - length rest) n) (split_of rest) ≡ split_of text
    → option_map (counted_after (length text - length after) (n + 1)) (split_of after) ≡ split_of text
cut-later text rest piece after n c m within before =
    let sum : (length text - length rest) + (length rest - length after) ≡ length text - length after = omega (arith, c.bytes) in
    sym (counted-twice (split_of after) (length text - length rest) (length rest - length after) (length text - length after) n sum)
    ∙ (sym (ap (option_map (counted_after (length text - length rest) n)) (split-later rest piece after c m)) ∙ before)

-- the line that is sought
pub cut-here : (text rest piece after : List ℕ) (n : ℕ) → IsCut rest piece after → is_mark (without_return piece) ≡ true → length rest ≤ length text
    → option_map (counted_after (length text - length rest) n) (split_of rest) ≡ split_of text
    → Some (split (length text - length rest) (length text - length after) (n + 1)) ≡ split_of text
cut-here text rest piece after n c m within before =
    ap (λ x. Some x) (same-split _ _ _ _ _ _ (omega arith) (omega (arith, c.bytes)) refl)
    ∙ (sym (ap (option_map (counted_after (length text - length rest) n)) (split-here rest piece after c m)) ∙ before)

-- no line is left
pub cut-none : (text rest : List ℕ) (bytes n : ℕ) → length rest ≡ 0 → option_map (counted_after bytes n) (split_of rest) ≡ split_of text → None ≡ split_of text
unfolding split_of
cut-none text [] bytes n e before = before
cut-none text (b ∷ bs) bytes n e before = absurd (omega arith)
