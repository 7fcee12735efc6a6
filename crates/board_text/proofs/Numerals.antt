-- Numbers in decimal are words, and say the number.
use Rattle.std.proofs.Common.{rules, ◌≡◌, ℕ, ℤ, pos, negsuc, ◌^◌, ◌<◌, ◌≤◌, ◌≤ℤ◌, min, max, true, List, [], ◌∷◌, length, refl, ap, ◌∙◌, arith, subst}
use Rattle.std.specs.Prelude.{nat_le, decimal}
use Rattle.std.specs.Fmt.{signed_decimal}
use Rattle.std.specs.List.{list_all, AllByRecursion}
use Rattle.std.proofs.lemmas.Bool.{and_parts, and_from, leb-true, le-leb, cond-true}
use Rattle.std.proofs.lemmas.Int.{ints}
use Rattle.std.proofs.lemmas.Fmt.{digits_decimal, digits_value-decimal, length-decimal-le, decimal_nonempty}
use Rattle.std.proofs.lemmas.Str.Parse.{IsNumeralModel, numerals_by_fold}
use Rattle.geo_rect.specs.declared.shapes.Interval.{Interval}
use Rattle.geo_rect.specs.declared.shapes.Rect.{Rect}
use Rattle.geo_rect.specs.Plane.{columns, rows, rect_of}
use Rattle.geo_rect.proofs.Same.{same_interval, same_rect}
use Rattle.board_parts.specs.Rules.{IsWordByte}
use Rattle.board_reader.specs.Corners.{span}
use Rattle.line_words.specs.Numbers.{number, is_number, is_digit, value_from}
use Rattle.board_text.proofs.Fitting.{HasNumber}
use Rattle.board_text.proofs.Lines.{IsGood}

own : IsNumeralModel (λ ds. list_all is_digit ds ≡ true) (value_from 0)
own = numerals_by_fold _ (search rules) value_from (search rules)

all-digits : (n : ℕ) → n < 2 ^ 63 → list_all is_digit (decimal n) ≡ true
all-digits n h = digits_decimal own n (omega arith)

pub decimal-is-number : (n : ℕ) → n < 2 ^ 63 → is_number (decimal n) ≡ true
decimal-is-number n h =
    let short : length (decimal n) ≤ 20 = length-decimal-le 20 n (omega arith) (omega arith) (omega arith) in
    and_from _ _ (le-leb (length (decimal n)) 20 short) (all-digits n h)

pub number-decimal : (n : ℕ) → n < 2 ^ 63 → number (decimal n) ≡ n
unfolding number
number-decimal n h = cond-true _ _ _ (decimal-is-number n h) ∙ digits_value-decimal own n (omega arith)

pub has-decimal : (n from to : ℕ) → n < 2 ^ 63 → from ≤ n → n ≤ to → HasNumber (decimal n) from to
has-decimal n from to small low high = record {
  digits = decimal-is-number n small;
  least = omega (arith, number-decimal n small);
  most = omega (arith, number-decimal n small);
}

digit-bytes : (w : List ℕ) → list_all is_digit w ≡ true → AllByRecursion IsWordByte w
digit-bytes [] e = tt
digit-bytes (b ∷ bs) e =
    let p = and_parts (is_digit b) (list_all is_digit bs) e in
    let q = and_parts (nat_le 48 b) (nat_le b 57) p.0 in
    let low = leb-true 48 b q.0 in
    let high = leb-true b 57 q.1 in
    (record { from = omega (arith, low); to = omega (arith, high) }, digit-bytes bs p.1)

pub good-decimal : (n : ℕ) → n < 2 ^ 63 → IsGood (decimal n)
good-decimal n h = record { some = decimal_nonempty n (omega arith); bytes = digit-bytes (decimal n) (all-digits n h) }

-- a number that is not negative, as a natural number
abbrev pub size : ℤ → ℕ
size (pos n) = n
size (negsuc n) = 0

pub size-is : (z : ℤ) → pos 0 ≤ℤ z → pos (size z) ≡ z
size-is (pos n) h = refl
size-is (negsuc n) h = absurd (omega (arith, ints))

pub size-most : (z : ℤ) (n : ℕ) → z ≤ℤ pos n → size z ≤ n
size-most (pos m) n h = omega (arith, ints)
size-most (negsuc m) n h = omega arith

size-least : (z : ℤ) (n : ℕ) → pos n ≤ℤ z → n ≤ size z
size-least (pos m) n h = omega (arith, ints)
size-least (negsuc m) n h = absurd (omega (arith, ints))

-- a number that is not negative and not greater than another, as it is written
pub record IsWritten (z : ℤ) (from to : ℕ) : Type 0 where
  pub good : IsGood (signed_decimal z)
  pub has : HasNumber (signed_decimal z) from to
  pub says : pos (number (signed_decimal z)) ≡ z
  pub sized : number (signed_decimal z) ≡ size z

written-size : (n from to : ℕ) → from ≤ n → n ≤ to → to < 2 ^ 63 → IsWritten (pos n) from to
written-size n from to low high small = record {
  good = good-decimal n (omega arith);
  has = has-decimal n from to (omega arith) low high;
  says = ap pos (number-decimal n (omega arith));
  sized = number-decimal n (omega arith);
}

pub written : (z : ℤ) (from to : ℕ) → pos from ≤ℤ z → z ≤ℤ pos to → to < 2 ^ 63 → IsWritten z from to
written z from to low high small =
    let e = size-is z (omega (arith, ints)) in
    subst (λ y. IsWritten y from to) e (written-size (size z) from to (size-least z from low) (size-most z to high) small)

span-of : (i : Interval) (a b : ℕ) → pos a ≡ i.low → pos b ≡ i.high → span a b ≡ i
span-of i a b l h =
    let ordered : pos a ≤ℤ pos b = rw (l, h) i.ordered in
    let le : a ≤ b = omega (arith, ints) in
    let low : min a b ≡ a = omega arith in
    let high : max a b ≡ b = omega arith in
    same_interval (span a b) i (ap pos low ∙ l) (ap pos high ∙ h)

-- the rectangle of the numbers of its corners
pub rect-of-corners : (r : Rect) (a b c d : ℕ) → pos a ≡ r.x0 → pos b ≡ r.y0 → pos c ≡ r.x1 → pos d ≡ r.y1 → rect_of (span a c) (span b d) ≡ r
rect-of-corners r a b c d x0 y0 x1 y1 =
    same_rect (rect_of (span a c) (span b d)) r (span-of (columns r) a c x0 x1) (span-of (rows r) b d y0 y1)
