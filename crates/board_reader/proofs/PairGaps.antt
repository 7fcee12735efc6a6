-- The gaps of pairs of classes: one for each layer and two classes, in their places, and one whichever class is named first.
use Rattle.std.proofs.Common.{◌≡◌, ℕ, ◌+◌, ◌*◌, ◌<◌, ℤ, pos, List, [], ◌∷◌, All, Some, unwrap_or, length, get_or, refl, sym, ap, ◌∙◌, arith, inl, inr, subst}
use Rattle.std.specs.Prelude.{int_lt}
use Rattle.std.specs.Int.{int_max}
use Rattle.std.specs.List.{range_with_len}
use Rattle.std.proofs.Math.Nat.{min_comm, max_comm, mul_assoc, add-mul}
use Rattle.std.proofs.lemmas.Bool.{cases_Bool, cond-true, cond-false, cond_both}
use Rattle.std.proofs.lemmas.Int.{ints, int_max_is}
use Rattle.std.proofs.lemmas.Nat.{mul-add-lt}
use Rattle.std.proofs.lemmas.List.{length-map}
use Rattle.std.proofs.lemmas.List.Elements.{All-head, All-tail, All-map}
use Rattle.std.proofs.lemmas.List.FromFn.{get_or-map-range_with_len}
use Rattle.board_parts.specs.Rules.{IsMeasure, IsRule, IsGapOfPairs}
use Rattle.board_parts.specs.declared.parts.Rule.{Rule}
use Rattle.board_reader.specs.declared.drafts.Draft.{Draft}
use Rattle.board_reader.specs.declared.gaps.Clear.{Clear}
use Rattle.board_reader.specs.declared.tables.Entry.{Entry}
use Rattle.board_reader.specs.Drafts.{parts_of}
use Rattle.board_reader.specs.Gaps.{is_for, clear_at, gap_in, gap_between, gaps_from, gaps_on, all_gaps}
use Rattle.board_reader.specs.Tables.{value_at}
use Rattle.board_reader.proofs.Cells.{value-holds, rows-hold}
use Rattle.board_reader.proofs.Evens.{each-even, length-rows, length-range, numbered-item}
use Rattle.board_reader.proofs.Stepping.{cases_option}

-- a gap that a line gave is a measure
clear-measure : (es : List Clear) (l a b : ℕ) (v : ℤ) → All (λ (e : Clear). IsMeasure e.gap) es → clear_at es l a b ≡ Some v → IsMeasure v
unfolding clear_at
clear-measure [] l a b v h e = absurd (cc)
clear-measure (x ∷ xs) l a b v h e =
    elim (cases_Bool (is_for x l a b)) [
      | inl here ↦
          let found = sym (cond-true (is_for x l a b) (Some x.gap) (clear_at xs l a b) here) ∙ e in
          let same : x.gap ≡ v = cc in
          subst IsMeasure same (All-head (λ (y : Clear). IsMeasure y.gap) x xs h)
      | inr later ↦
          clear-measure xs l a b v (All-tail (λ (y : Clear). IsMeasure y.gap) x xs h)
          (sym (cond-false (is_for x l a b) (Some x.gap) (clear_at xs l a b) later) ∙ e)
    ]

rule-measure : (rules : List (Entry Rule)) (l c : ℕ) → All (λ (e : Entry Rule). IsRule e.value) rules → IsMeasure (gap_in (value_at rules l c))
rule-measure rules l c h =
    elim (cases_option (value_at rules l c)) [
      | inl none ↦ subst (λ o. IsMeasure (gap_in o)) (sym none) (record { from = omega (arith, ints); to = omega (arith, ints) })
      | inr some ↦ subst (λ o. IsMeasure (gap_in o)) (sym some.1) (value-holds IsRule rules l c some.0 h some.1).gap
    ]

pub gap-measure : (rules : List (Entry Rule)) (es : List Clear) (l a b : ℕ) → All (λ (e : Entry Rule). IsRule e.value) rules → All (λ (e : Clear). IsMeasure e.gap) es
    → IsMeasure (gap_between rules es l a b)
unfolding gap_between
gap-measure rules es l a b h g =
    let x = gap_in (value_at rules l a) in
    let y = gap_in (value_at rules l b) in
    elim (cases_option (clear_at es l a b)) [
      | inl none ↦
          subst (λ o. IsMeasure (unwrap_or o (int_max x y))) (sym none)
          (cond_both (int_lt y x) x y IsMeasure (λ e. rule-measure rules l a h) (λ e. rule-measure rules l b h))
      | inr some ↦ subst (λ o. IsMeasure (unwrap_or o (int_max x y))) (sym some.1) (clear-measure es l a b some.0 g some.1)
    ]

clear-pair : (es : List Clear) (l a b : ℕ) → clear_at es l a b ≡ clear_at es l b a
unfolding clear_at
clear-pair [] l a b = refl
clear-pair (x ∷ xs) l a b = rw (min_comm a b, max_comm a b, clear-pair xs l a b) refl

int_max-comm : (x y : ℤ) → int_max x y ≡ int_max y x
int_max-comm x y = omega (arith, ints, int_max_is x y, int_max_is y x)

gap-pair : (rules : List (Entry Rule)) (es : List Clear) (l a b : ℕ) → gap_between rules es l a b ≡ gap_between rules es l b a
unfolding gap_between
gap-pair rules es l a b =
    let x = gap_in (value_at rules l a) in
    let y = gap_in (value_at rules l b) in
    ap (λ o. unwrap_or o (int_max x y)) (clear-pair es l a b) ∙ ap (unwrap_or (clear_at es l b a)) (int_max-comm x y)

module _ (rules : List (Entry Rule)) (es : List Clear) (layers classes : ℕ) where
  length-from : (l a : ℕ) → length (gaps_from rules es classes l a) ≡ classes
  length-from l a = simp length-map (length-range 0 classes)

  length-on : (l : ℕ) → length (gaps_on rules es classes l) ≡ classes * classes
  length-on l =
      length-rows (gaps_from rules es classes l) classes (range_with_len 0 classes) (each-even (gaps_from rules es classes l) classes (length-from l) (range_with_len 0 classes))
      ∙ ap (λ n. n * classes) (length-range 0 classes)

  pub length-gaps : length (all_gaps rules es layers classes) ≡ (layers * classes) * classes
  length-gaps =
      length-rows (gaps_on rules es classes) (classes * classes) (range_with_len 0 layers) (each-even (gaps_on rules es classes) (classes * classes) length-on (range_with_len 0 layers))
      ∙ (ap (λ n. n * (classes * classes)) (length-range 0 layers) ∙ sym (mul_assoc layers classes classes))

  gap-from : (l a b : ℕ) (d : ℤ) → b < classes → get_or (gaps_from rules es classes l a) b d ≡ gap_between rules es l a b
  gap-from l a b d lt = get_or-map-range_with_len (gap_between rules es l a) 0 classes b b d lt (omega arith)

  gap-on : (l a b : ℕ) (d : ℤ) → a < classes → b < classes → get_or (gaps_on rules es classes l) (a * classes + b) d ≡ gap_between rules es l a b
  gap-on l a b d first second =
      numbered-item (gaps_from rules es classes l) classes classes a b d (each-even (gaps_from rules es classes l) classes (length-from l) (range_with_len 0 classes)) first second
      ∙ gap-from l a b d second

  in-square : (a b : ℕ) → a < classes → b < classes → a * classes + b < classes * classes
  in-square a b first second = mul-add-lt a classes b classes first second

  gap-at : (l a b : ℕ) (d : ℤ) → l < layers → a < classes → b < classes → get_or (all_gaps rules es layers classes) ((l * classes + a) * classes + b) d ≡ gap_between rules es l a b
  gap-at l a b d layer first second =
      let sums = add-mul (l * classes) a classes in
      let products = mul_assoc l classes classes in
      let place : (l * classes + a) * classes + b ≡ l * (classes * classes) + (a * classes + b) = omega (arith, sums, products) in
      ap (λ k. get_or (all_gaps rules es layers classes) k d) place
      ∙ (numbered-item (gaps_on rules es classes) (classes * classes) layers l (a * classes + b) d (each-even (gaps_on rules es classes) (classes * classes) length-on (range_with_len 0 layers)) layer (in-square a b first second)
      ∙ gap-on l a b d first second)

  pub each-gap : All (λ (e : Entry Rule). IsRule e.value) rules → All (λ (e : Clear). IsMeasure e.gap) es → All IsMeasure (all_gaps rules es layers classes)
  each-gap h g =
      rows-hold IsMeasure (gaps_on rules es classes) (range_with_len 0 layers)
      (λ l. rows-hold IsMeasure (gaps_from rules es classes l) (range_with_len 0 classes)
      (λ a. All-map IsMeasure (gap_between rules es l a) (range_with_len 0 classes) (λ i d inside. gap-measure rules es l a (get_or (range_with_len 0 classes) i d) h g)))

-- the gap of two classes is one, whichever of them is named first
pub gaps-of-pairs : (d : Draft) → IsGapOfPairs (parts_of d)
unfolding parts_of
gaps-of-pairs d l a b layer first second =
    let n = length d.classes in
    let m = length d.layers in
    gap-at d.rules d.clears m n l.0 a.0 b.0 (pos 1) layer first second
    ∙ (gap-pair d.rules d.clears l.0 a.0 b.0 ∙ sym (gap-at d.rules d.clears m n l.0 b.0 a.0 (pos 1) layer second first))
