-- The lines of the bytes before a cut, and of those after it.
use Rattle.std.proofs.Common.{◌≡◌, ℕ, ◌+◌, ◌<◌, zero, suc, inl, inr, true, false, List, [], ◌∷◌, ◌++◌, All, Option, Some, None, length, take, drop, map, get_or, refl, sym, ap, ◌∙◌, arith, add-one, subst}
use Rattle.std.specs.Prelude.{position, codes, ◌↔◌}
use Rattle.std.specs.List.{sum_by, AllByRecursion}
use Rattle.std.specs.Option.{option_map}
use Rattle.std.proofs.lemmas.Bool.{cases_eq, cases_Bool, false≢true}
use Rattle.std.proofs.lemmas.List.{take-map, drop-map, length-take-le, get_or-take}
use Rattle.std.proofs.lemmas.List.Elements.{All-from_recursion}
use Rattle.std.proofs.lemmas.List.Quantifiers.{position-Some}
use Rattle.std.proofs.lemmas.List.Sums.{sum_by-cons}
use Rattle.std.proofs.lemmas.Slice.Eq.{bytes_eq-Decides}
use Rattle.std.proofs.Math.Seq.{take-nil, drop-nil, split_at as cut_at}
use Rattle.board_reader.specs.declared.splits.Split.{Split}
use Rattle.line_words.specs.Lines.{pieces, onto, lines, words, without_return}
use Rattle.board_reader.specs.Splits.{is_alone, is_mark, bytes_of, split_at, split_of, IsNoMark, IsSplit}
use Rattle.board_reader.proofs.Cutting.{position-here, position-later}
use Rattle.line_words.proofs.Pieces.{pieces-feed, pieces-other}

-- how many bytes a piece has with its line feed
abbrev size : List ℕ → ℕ
size p = length p + 1

-- the bytes of the first lines, and those after them, fall into the first pieces and those after them
record AreHalves (text : List ℕ) (n : ℕ) : Type 0 where
  front : pieces (take (bytes_of text n) text) ≡ take n (pieces text)
  back : pieces (drop (bytes_of text n) text) ≡ drop n (pieces text)

-- the same, where the number of bytes is given
halves : (text : List ℕ) (n bytes : ℕ) → bytes_of text n ≡ bytes → pieces (take bytes text) ≡ take n (pieces text) → pieces (drop bytes text) ≡ drop n (pieces text) → AreHalves text n
halves text n bytes e f b = record {
  front = ap (λ m. pieces (take m text)) e ∙ f;
  back = ap (λ m. pieces (drop m text)) e ∙ b;
}

no-bytes : (text : List ℕ) → bytes_of text 0 ≡ 0
no-bytes text = omega arith

onto-some : (b : ℕ) (ps : List (List ℕ)) → (q : List ℕ) × (qs : List (List ℕ)) × (onto b ps ≡ q ∷ qs)
onto-some b [] = (b ∷ [], [], refl)
onto-some b (p ∷ ps) = (b ∷ p, ps, refl)

-- a text with a byte has a piece
pieces-some : (b : ℕ) (bs : List ℕ) → (q : List ℕ) × (qs : List (List ℕ)) × (pieces (b ∷ bs) ≡ q ∷ qs)
pieces-some b bs =
    elim (cases_eq b 10) [
      | inl e ↦ ([], pieces bs, pieces-feed b bs e)
      | inr e ↦ let o = onto-some b (pieces bs) in (o.0, o.1, pieces-other b bs e ∙ o.2)
    ]

onto-take : (b : ℕ) (ps : List (List ℕ)) (n : ℕ) → onto b (take (suc n) ps) ≡ take (suc n) (onto b ps)
onto-take b [] n = ap (λ ps. (b ∷ []) ∷ ps) (sym (take-nil n))
onto-take b (p ∷ ps) n = refl

onto-drop : (b : ℕ) (ps : List (List ℕ)) (n : ℕ) → drop (suc n) ps ≡ drop (suc n) (onto b ps)
onto-drop b [] n = sym (drop-nil n)
onto-drop b (p ∷ ps) n = refl

-- the first byte is a line feed
at-feed : (b : ℕ) (bs : List ℕ) (n : ℕ) → b ≡ 10 → AreHalves bs n → AreHalves (b ∷ bs) (suc n)
at-feed b bs n e h =
    let p = pieces-feed b bs e in
    let sum : sum_by size (take (suc n) (pieces (b ∷ bs))) ≡ 1 + sum_by size (take n (pieces bs)) = ap (λ ps. sum_by size (take (suc n) ps)) p ∙ sum_by-cons size [] (take n (pieces bs)) in
    halves (b ∷ bs) (suc n) (suc (bytes_of bs n)) (omega (arith, sum))
    (pieces-feed b (take (bytes_of bs n) bs) e ∙ (ap (λ ps. [] ∷ ps) h.front ∙ sym (ap (take (suc n)) p)))
    (h.back ∙ sym (ap (drop (suc n)) p))

-- one byte more in the first piece
byte-more : (b : ℕ) (bs : List ℕ) (n : ℕ) → (b ≡ 10 → ⊥) → bytes_of (b ∷ bs) (suc n) ≡ suc (bytes_of bs (suc n))
byte-more b [] n e =
    let sum : sum_by size (take (suc n) (pieces (b ∷ []))) ≡ 2 + sum_by size (take n []) = ap (λ ps. sum_by size (take (suc n) ps)) (pieces-other b [] e) ∙ sum_by-cons size (b ∷ []) (take n []) in
    omega (arith, sum)
byte-more b (c ∷ cs) n e =
    let o = pieces-some c cs in
    let rest = sum_by size (take n o.1) in
    let one : sum_by size (take (suc n) (pieces (c ∷ cs))) ≡ size o.0 + rest = ap (λ ps. sum_by size (take (suc n) ps)) o.2 ∙ sum_by-cons size o.0 (take n o.1) in
    let more : sum_by size (take (suc n) (pieces (b ∷ c ∷ cs))) ≡ size (b ∷ o.0) + rest
    = ap (λ ps. sum_by size (take (suc n) ps)) (pieces-other b (c ∷ cs) e ∙ ap (onto b) o.2) ∙ sum_by-cons size (b ∷ o.0) (take n o.1) in
    omega (arith, one, more)

-- the first byte is another
at-other : (b : ℕ) (bs : List ℕ) (n : ℕ) → (b ≡ 10 → ⊥) → AreHalves bs (suc n) → AreHalves (b ∷ bs) (suc n)
at-other b bs n e h =
    let p = pieces-other b bs e in
    halves (b ∷ bs) (suc n) (suc (bytes_of bs (suc n))) (byte-more b bs n e)
    (pieces-other b (take (bytes_of bs (suc n)) bs) e ∙ (ap (onto b) h.front ∙ (onto-take b (pieces bs) n ∙ sym (ap (take (suc n)) p))))
    (h.back ∙ (onto-drop b (pieces bs) n ∙ sym (ap (drop (suc n)) p)))

text-halves : (text : List ℕ) (n : ℕ) → AreHalves text n
text-halves [] zero = halves [] 0 0 (no-bytes []) refl refl
text-halves [] (suc n) = halves [] (suc n) 0 (omega arith) refl refl
text-halves (b ∷ bs) zero = halves (b ∷ bs) 0 0 (no-bytes (b ∷ bs)) refl refl
text-halves (b ∷ bs) (suc n) = elim (cases_eq b 10) [ inl e ↦ at-feed b bs n e (text-halves bs n) | inr e ↦ at-other b bs n e (text-halves bs (suc n)) ]

lines-front : (text : List ℕ) (n : ℕ) → lines (take (bytes_of text n) text) ≡ take n (lines text)
lines-front text n = ap (map without_return) (text-halves text n).front ∙ sym (take-map without_return n (pieces text))

lines-back : (text : List ℕ) (n : ℕ) → lines (drop (bytes_of text n) text) ≡ drop n (lines text)
lines-back text n = ap (map without_return) (text-halves text n).back ∙ sym (drop-map without_return n (pieces text))

alone : (w : List ℕ) (ws : List (List ℕ)) → is_alone w ws ≡ true → ws ≡ w ∷ []
alone w [] e = absurd (false≢true e)
alone w (v ∷ []) e = ap (λ x. x ∷ []) ((bytes_eq-Decides v w).0 e)
alone w (v ∷ u ∷ vs) e = absurd (false≢true e)

no-mark : (line : List ℕ) → is_mark line ≡ false → IsNoMark line
no-mark line e m =
    let w = codes "replies" in
    false≢true (sym e ∙ (ap (is_alone w) m ∙ (bytes_eq-Decides w w).1 refl))

-- the first line that is sought stands in this place
at-place : (text : List ℕ) (k : ℕ) → position is_mark (lines text) ≡ Some k → IsSplit text (split_at text k)
at-place text k place =
    let found = position-Some is_mark (lines text) k [] place in
    let line = get_or (lines text) k [] in
    let front = lines-front text k in
    let back : lines (drop (bytes_of text (k + 1)) text) ≡ drop (suc k) (lines text) = lines-back text (k + 1) ∙ ap (λ n. drop n (lines text)) (add-one k) in
    let before : length (take k (lines text)) ≡ k = length-take-le k (lines text) (omega (arith, found.0)) in
    record {
      line = line;
      cut = cut_at (lines text) k [] found.0 ∙ (ap (λ f. f ++ line ∷ drop (suc k) (lines text)) (sym front) ∙ ap (λ b. lines (take (bytes_of text k) text) ++ line ∷ b) (sym back));
      mark = alone (codes "replies") (words line) found.1;
      first = subst (λ ls. All IsNoMark ls) (sym front) (λ j d within.
          let lt : j < k = omega (arith, within, before) in
          subst (λ l. IsNoMark l) (sym (get_or-take k (lines text) j d lt)) (no-mark (get_or (lines text) j d) ((position-Some is_mark (lines text) k d place).2 j lt)));
      number = ap (λ n. n + 1) (sym (ap length front ∙ before));
    }

mapped : {A B : Type 0} (f : A → B) (o : Option A) (b : B) → option_map f o ≡ Some b → (a : A) × (o ≡ Some a) × (f a ≡ b)
mapped f None b e = absurd (cc)
mapped f (Some a) b e = (a, refl, cc)

pub cut-law : (text : List ℕ) (s : Split) → split_of text ≡ Some s → IsSplit text s
unfolding split_of
cut-law text s e =
    let m = mapped (split_at text) (position is_mark (lines text)) s e in
    subst (IsSplit text) m.2 (at-place text m.0 m.1)

mapped-none : {A B : Type 0} (f : A → B) (o : Option A) → option_map f o ≡ None → o ≡ None
mapped-none f None e = refl
mapped-none f (Some a) e = absurd (cc)

no-place : {A : Type 0} (o : Option A) → ((a : A) → o ≡ Some a → ⊥) → o ≡ None
no-place None h = refl
no-place (Some a) h = absurd (h a refl)

none-pass : (ls : List (List ℕ)) → position is_mark ls ≡ None → AllByRecursion IsNoMark ls
none-pass [] e = tt
none-pass (l ∷ ls) e =
    elim (cases_Bool (is_mark l)) [
      | inl t ↦ let here = position-here is_mark l ls t in absurd (cc)
      | inr f ↦ (no-mark l f, none-pass ls (mapped-none _ (position is_mark ls) (sym (position-later is_mark l ls f) ∙ e)))
    ]

pub whole-law : (text : List ℕ) → (split_of text ≡ None) ↔ All IsNoMark (lines text)
unfolding split_of
whole-law text = (
  λ e. All-from_recursion IsNoMark (lines text) (none-pass (lines text) (mapped-none (split_at text) (position is_mark (lines text)) e)),
  λ h. ap (option_map (split_at text)) (no-place (position is_mark (lines text)) (λ k e.
      let found = position-Some is_mark (lines text) k [] e in
      h k [] found.0 (alone (codes "replies") (words (get_or (lines text) k [])) found.1))),
)
