-- Where the first line feed cuts a text.
use Rattle.std.proofs.Common.{◌≡◌, ℕ, ◌+◌, ◌<◌, suc, zero, List, [], ◌∷◌, length, get_or, take, drop, ap, ◌∙◌, arith, add-one}
use Rattle.std.proofs.lemmas.Bool.Decides.{nat_tests}
use Rattle.gerber_out.specs.Lines.{lines, onto}

pub lines-feed : (b : ℕ) (bs : List ℕ) → b ≡ 10 → lines (b ∷ bs) ≡ (b ∷ []) ∷ lines bs
lines-feed b bs e = rw e

pub lines-other : (b : ℕ) (bs : List ℕ) → (b ≡ 10 → ⊥) → lines (b ∷ bs) ≡ onto b (lines bs)
lines-other b bs n = grind (arith, nat_tests)

cut : (text : List ℕ) (i : ℕ) → i < length text → ((k : ℕ) → k < i → get_or text k 0 ≡ 10 → ⊥) → get_or text i 0 ≡ 10 → lines text ≡ take (suc i) text ∷ lines (drop (suc i) text)
cut [] i h none here = absurd (omega arith)
cut (b ∷ bs) zero h none here = lines-feed b bs here
cut (b ∷ bs) (suc i) h none here =
    let rest = cut bs i (omega arith) (λ k l e. none (suc k) (omega arith) e) here in
    lines-other b bs (none 0 (omega arith)) ∙ ap (onto b) rest

pub lines-cut : (text : List ℕ) (i : ℕ) → i < length text → ((k : ℕ) → k < i → get_or text k 0 ≡ 10 → ⊥) → get_or text i 0 ≡ 10 → lines text ≡ take (i + 1) text ∷ lines (drop (i + 1) text)
lines-cut text i h none here = rw (add-one i) (cut text i h none here)

pub lines-whole : (text : List ℕ) → 0 < length text → ((k : ℕ) → k < length text → get_or text k 0 ≡ 10 → ⊥) → lines text ≡ text ∷ []
lines-whole [] some none = absurd (omega arith)
lines-whole (b ∷ []) some none = lines-other b [] (none 0 (omega arith))
lines-whole (b ∷ c ∷ bs) some none =
    let rest = lines-whole (c ∷ bs) (omega arith) (λ k l e. none (suc k) (omega arith) e) in
    lines-other b (c ∷ bs) (none 0 (omega arith)) ∙ ap (onto b) rest
