-- Where the first line feed cuts a text.
use Rattle.std.proofs.Common.{◌≡◌, ℕ, ◌+◌, ◌<◌, suc, zero, List, [], ◌∷◌, length, get_or, take, drop, refl, sym, ap, ◌∙◌, arith, add-one}
use Rattle.std.proofs.lemmas.Bool.Decides.{nat_tests}
use Rattle.line_words.specs.Lines.{pieces, onto}

pub pieces-feed : (b : ℕ) (bs : List ℕ) → b ≡ 10 → pieces (b ∷ bs) ≡ [] ∷ pieces bs
pieces-feed b bs e = rw e

pub pieces-other : (b : ℕ) (bs : List ℕ) → (b ≡ 10 → ⊥) → pieces (b ∷ bs) ≡ onto b (pieces bs)
pieces-other b bs n = grind (arith, nat_tests)

pub pieces-cut : (text : List ℕ) (i : ℕ) → i < length text → ((k : ℕ) → k < i → get_or text k 0 ≡ 10 → ⊥) → get_or text i 0 ≡ 10 → pieces text ≡ take i text ∷ pieces (drop (i + 1) text)
pieces-cut [] i h none here = absurd (omega arith)
pieces-cut (b ∷ bs) zero h none here = pieces-feed b bs here
pieces-cut (b ∷ bs) (suc i) h none here =
    let rest = pieces-cut bs i (omega arith) (λ k l e. none (suc k) (omega arith) e) here in
    let same : drop (suc i + 1) (b ∷ bs) ≡ drop (i + 1) bs = rw (add-one (suc i), add-one i) refl in
    pieces-other b bs (none 0 (omega arith)) ∙ (ap (onto b) rest ∙ ap (λ p. (b ∷ take i bs) ∷ pieces p) (sym same))

pub pieces-whole : (text : List ℕ) → 0 < length text → ((k : ℕ) → k < length text → get_or text k 0 ≡ 10 → ⊥) → pieces text ≡ text ∷ []
pieces-whole [] some none = absurd (omega arith)
pieces-whole (b ∷ []) some none = pieces-other b [] (none 0 (omega arith))
pieces-whole (b ∷ c ∷ bs) some none =
    let rest = pieces-whole (c ∷ bs) (omega arith) (λ k l e. none (suc k) (omega arith) e) in
    pieces-other b (c ∷ bs) (none 0 (omega arith)) ∙ ap (onto b) rest
