-- The gaps of two classes that are given line by line: by layers, by the first class, and by the second, which does not
-- stand before the first.
use Rattle.std.proofs.Common.{◌≡◌, ◌≢◌, ◌⊎◌, ℕ, ℤ, ◌-◌, ◌<◌, ◌≤◌, min, max, suc, true, false, Bool, List, [], ◌∷◌, ◌++◌, Option, Some, None, refl, sym, ap, ◌∙◌, arith, inl, inr}
use Rattle.std.specs.Prelude.{◌==◌, ◌&&◌, if◌then◌else◌}
use Rattle.std.specs.List.{range_with_len, flat_map}
use Rattle.std.proofs.lemmas.Bool.{cases_Bool, cases_eq, cases_lt, cond-true, cond-false, and_from, and_left, and_right, eq-eqb, ne_eqb}
use Rattle.board_reader.specs.declared.drafts.Draft.{Draft}
use Rattle.board_reader.specs.declared.gaps.Clear.{Clear}
use Rattle.board_reader.specs.Gaps.{clear_at}
use Rattle.board_text.proofs.Cells.{IsTable, with_value, AreGiven, Gives, OrHere, given-more, given-same, none-given, range-gives, IsBefore}
use Rattle.board_text.proofs.Telling.{Tells}

-- a layer and two classes in order
pub record Pair : Type 0 where
  pub layer : ℕ
  pub low : ℕ
  pub high : ℕ

abbrev pub pair : ℕ → ℕ → ℕ → Pair
pair l c d = record { layer = l; low = c; high = d }

abbrev pub clear_for : Pair → ℤ → Clear
clear_for k x = record { layer = k.layer; low = k.low; high = k.high; gap = x }

abbrev pub is_of : Clear → Pair → Bool
is_of e k = e.layer == k.layer && (e.low == k.low && e.high == k.high)

-- the gap that the first line for them gives
abbrev pub pair_at : List Clear → Pair → Option ℤ
pair_at [] k = None
pair_at (e ∷ es) k = if is_of e k then Some e.gap else pair_at es k

-- it is the gap of two classes, whichever of them is named first
pub clear-is-pair : (es : List Clear) (l c d : ℕ) → clear_at es l c d ≡ pair_at es (pair l (min c d) (max c d))
unfolding clear_at
clear-is-pair [] l c d = refl
clear-is-pair (e ∷ es) l c d = ap (λ o. if is_of e (pair l (min c d) (max c d)) then Some e.gap else o) (clear-is-pair es l c d)

here-it-is : (es : List Clear) (k : Pair) (x : ℤ) → is_of (clear_for k x) k ≡ true → pair_at es k ≡ None → pair_at (es ++ clear_for k x ∷ []) k ≡ Some x
here-it-is [] k x is none = cond-true _ _ _ is
here-it-is (e ∷ es) k x is none =
    elim (cases_Bool (is_of e k)) [
      | inl t ↦ let s : Some e.gap ≡ None = sym (cond-true _ _ _ t) ∙ none in absurd (cc)
      | inr f ↦ cond-false _ _ _ f ∙ here-it-is es k x is (sym (cond-false _ _ _ f) ∙ none)
    ]

others-stay : (es : List Clear) (e : Clear) (k : Pair) → is_of e k ≡ false → pair_at (es ++ e ∷ []) k ≡ pair_at es k
others-stay [] e k n = cond-false _ _ _ n
others-stay (f ∷ es) e k n = ap (λ o. if is_of f k then Some f.gap else o) (others-stay es e k n)

other-pair : (j k : Pair) (x : ℤ) → j ≢ k → is_of (clear_for j x) k ≡ false
other-pair j k x n =
    let layers = j.layer == k.layer in
    let lows = j.low == k.low in
    let highs = j.high == k.high in
    elim (cases_eq j.layer k.layer) [
      | inr e ↦ and_left layers (lows && highs) (ne_eqb j.layer k.layer e)
      | inl e ↦ elim (cases_eq j.low k.low) [
        | inr f ↦ and_right layers (lows && highs) (and_left lows highs (ne_eqb j.low k.low f))
        | inl f ↦ and_right layers (lows && highs) (and_right lows highs (ne_eqb j.high k.high (λ g. n (λ i. record { layer = e i; low = f i; high = g i }))))
      ]
    ]

pub are-table : IsTable pair_at clear_for
are-table = record {
  none = λ k. refl;
  here = λ es k x none. here-it-is es k x (and_from (k.layer == k.layer) (k.low == k.low && k.high == k.high) (eq-eqb k.layer k.layer refl) (and_from (k.low == k.low) (k.high == k.high) (eq-eqb k.low k.low refl) (eq-eqb k.high k.high refl))) none;
  other = λ es j k x n. others-stay es (clear_for j x) k (other-pair j k x n);
}

-- the classes are two of these many, in order
abbrev pub IsPair : ℕ → Pair → Type 0
IsPair classes k = (k.low ≤ k.high) × (k.high < classes)

-- the pair stands before this one
abbrev pub IsEarlier : Pair → ℕ → ℕ → ℕ → Type 0
IsEarlier k l c d = (k.layer < l) ⊎ ((k.layer ≡ l) × IsBefore k.low k.high c d)

-- the pairs before this one
abbrev pub IsPairDone : ℕ → ℕ → ℕ → ℕ → Pair → Type 0
IsPairDone classes l c d k = IsPair classes k × IsEarlier k l c d

none-done : (classes : ℕ) (k : Pair) → IsPairDone classes 0 0 0 k → ⊥
none-done classes k h = elim h.1 [ inl l ↦ omega arith | inr e ↦ elim e.1 [ inl l ↦ omega arith | inr f ↦ let l = f.1 in omega arith ] ]

not-itself : (classes l c d : ℕ) → IsPairDone classes l c d (pair l c d) → ⊥
not-itself classes l c d h = elim h.1 [ inl m ↦ omega arith | inr e ↦ elim e.1 [ inl m ↦ omega arith | inr f ↦ let m = f.1 in omega arith ] ]

here-done : (classes l c d : ℕ) (k : Pair) → c ≤ d → d < classes → OrHere (IsPairDone classes l c d) (pair l c d) k → IsPairDone classes l c (suc d) k
here-done classes l c d k order inside (inl h) = (
  h.0,
  elim h.1 [
    | inl m ↦ inl m
    | inr e ↦ inr (e.0, elim e.1 [ inl m ↦ inl m | inr f ↦ let m = f.1 in inr (f.0, omega arith) ])
  ],
)
here-done classes l c d k order inside (inr e) =
    let layer : k.layer ≡ l = ap (λ x. x.layer) e in
    let low : k.low ≡ c = ap (λ x. x.low) e in
    let high : k.high ≡ d = ap (λ x. x.high) e in
    ((omega arith, omega arith), inr (layer, inr (low, omega arith)))

done-here : (classes l c d : ℕ) (k : Pair) → IsPairDone classes l c (suc d) k → OrHere (IsPairDone classes l c d) (pair l c d) k
done-here classes l c d k h =
    elim h.1 [
      | inl m ↦ inl (h.0, inl m)
      | inr e ↦ elim e.1 [
        | inl m ↦ inl (h.0, inr (e.0, inl m))
        | inr f ↦ elim (cases_lt k.high d) [
          | inl m ↦ inl (h.0, inr (e.0, inr (f.0, m)))
          | inr m ↦
              let layer = e.0 in
              let low = f.0 in
              let most = f.1 in
              let high : k.high ≡ d = omega arith in
              inr (λ i. record { layer = layer i; low = low i; high = high i })
        ]
      ]
    ]

-- no pair of a first class has an earlier second one
class-starts : (classes l c : ℕ) (k : Pair) → IsPairDone classes l c 0 k → IsPairDone classes l c c k
class-starts classes l c k h = (
  h.0,
  elim h.1 [
    | inl m ↦ inl m
    | inr e ↦ elim e.1 [ inl m ↦ inr (e.0, inl m) | inr f ↦ let m = f.1 in absurd (omega arith) ]
  ],
)

starts-class : (classes l c : ℕ) (k : Pair) → IsPairDone classes l c c k → IsPairDone classes l c 0 k
starts-class classes l c k h = (
  h.0,
  elim h.1 [
    | inl m ↦ inl m
    | inr e ↦ elim e.1 [ inl m ↦ inr (e.0, inl m) | inr f ↦ let low = f.0 in let m = f.1 in let order = h.0.0 in absurd (omega arith) ]
  ],
)

class-ends : (classes l c : ℕ) (k : Pair) → IsPairDone classes l c classes k → IsPairDone classes l (suc c) 0 k
class-ends classes l c k h = (
  h.0,
  elim h.1 [
    | inl m ↦ inl m
    | inr e ↦ inr (e.0, inl (elim e.1 [ inl m ↦ omega arith | inr f ↦ let low = f.0 in omega arith ]))
  ],
)

ends-class : (classes l c : ℕ) (k : Pair) → IsPairDone classes l (suc c) 0 k → IsPairDone classes l c classes k
ends-class classes l c k h = (
  h.0,
  elim h.1 [
    | inl m ↦ inl m
    | inr e ↦ elim e.1 [
      | inl m ↦ elim (cases_lt k.low c) [ inl n ↦ inr (e.0, inl n) | inr n ↦ inr (e.0, inr (omega arith, h.0.1)) ]
      | inr f ↦ let m = f.1 in absurd (omega arith)
    ]
  ],
)

layer-ends : (classes l : ℕ) (k : Pair) → IsPairDone classes l classes 0 k → IsPairDone classes (suc l) 0 0 k
layer-ends classes l k h = (h.0, inl (elim h.1 [ inl m ↦ omega arith | inr e ↦ let layer = e.0 in omega arith ]))

ends-layer : (classes l : ℕ) (k : Pair) → IsPairDone classes (suc l) 0 0 k → IsPairDone classes l classes 0 k
ends-layer classes l k h = (
  h.0,
  elim h.1 [
    | inl m ↦ elim (cases_lt k.layer l) [
      | inl n ↦ inl n
      | inr n ↦ let order = h.0.0 in let within = h.0.1 in inr (omega arith, inl (omega arith))
    ]
    | inr e ↦ elim e.1 [ inl m ↦ absurd (omega arith) | inr f ↦ let m = f.1 in absurd (omega arith) ]
  ],
)

-- a line for each pair of classes on each layer
pub pairs-give : (at : List Clear → Draft) (text : ℕ → ℕ → ℕ → List ℕ) (v : Pair → Option ℤ) (layers classes : ℕ)
    → ((l c d : ℕ) (es : List Clear) → l < layers → c ≤ d → d < classes → pair_at es (pair l c d) ≡ None → Tells (at es) (text l c d) (at (with_value clear_for es (pair l c d) (v (pair l c d)))))
    → Gives pair_at v at [] (flat_map (λ l. flat_map (λ c. flat_map (text l c) (range_with_len c (classes - c))) (range_with_len 0 classes)) (range_with_len 0 layers)) (IsPairDone classes layers 0 0)
pairs-give at text v layers classes step =
    let one : (l c d : ℕ) (es : List Clear) → l < layers → c ≤ d → d < classes → AreGiven pair_at v es (IsPairDone classes l c d) → Gives pair_at v at es (text l c d) (IsPairDone classes l c (suc d))
    = λ l c d es inside order within g.
    let new : IsPairDone classes l c d (pair l c d) → ⊥ = not-itself classes l c d in
    let es' = with_value clear_for es (pair l c d) (v (pair l c d)) in
    record {
      given = es';
      are = given-same pair_at v es' (OrHere (IsPairDone classes l c d) (pair l c d)) (IsPairDone classes l c (suc d)) (λ k. here-done classes l c d k order within) (done-here classes l c d) (given-more pair_at clear_for are-table v es (IsPairDone classes l c d) (pair l c d) new g);
      tells = step l c d es inside order within (g.after (pair l c d) new);
    } in
    let class : (l c : ℕ) (es : List Clear) → l < layers → c < classes → AreGiven pair_at v es (IsPairDone classes l c 0) → Gives pair_at v at es (flat_map (text l c) (range_with_len c (classes - c))) (IsPairDone classes l (suc c) 0)
    = λ l c es inside within g.
    let all = range-gives pair_at v at (text l c) (IsPairDone classes l c) (classes - c) c classes (omega arith) (λ d fs m n. one l c d fs inside m n) es
    (given-same pair_at v es (IsPairDone classes l c 0) (IsPairDone classes l c c) (class-starts classes l c) (starts-class classes l c) g) in
    record {
      given = all.given;
      are = given-same pair_at v all.given (IsPairDone classes l c classes) (IsPairDone classes l (suc c) 0) (class-ends classes l c) (ends-class classes l c) all.are;
      tells = all.tells;
    } in
    let layer : (l : ℕ) (es : List Clear) → l < layers → AreGiven pair_at v es (IsPairDone classes l 0 0) → Gives pair_at v at es (flat_map (λ c. flat_map (text l c) (range_with_len c (classes - c))) (range_with_len 0 classes)) (IsPairDone classes (suc l) 0 0)
    = λ l es inside g.
    let all = range-gives pair_at v at (λ c. flat_map (text l c) (range_with_len c (classes - c))) (λ c. IsPairDone classes l c 0) classes 0 classes (omega arith) (λ c fs m n. class l c fs inside n) es g in
    record {
      given = all.given;
      are = given-same pair_at v all.given (IsPairDone classes l classes 0) (IsPairDone classes (suc l) 0 0) (layer-ends classes l) (ends-layer classes l) all.are;
      tells = all.tells;
    } in
    range-gives pair_at v at (λ l. flat_map (λ c. flat_map (text l c) (range_with_len c (classes - c))) (range_with_len 0 classes)) (λ l. IsPairDone classes l 0 0) layers 0 layers (omega arith) (λ l fs m n. layer l fs n) []
    (none-given pair_at clear_for are-table v (IsPairDone classes 0 0 0) (none-done classes))

-- what is given for a pair once all are done
pub given-pair : (v : Pair → Option ℤ) (layers classes : ℕ) (es : List Clear) → AreGiven pair_at v es (IsPairDone classes layers 0 0) → (l c d : ℕ) → l < layers → c ≤ d → d < classes → pair_at es (pair l c d) ≡ v (pair l c d)
given-pair v layers classes es g l c d inside order within = g.before (pair l c d) ((order, within), inl inside)
