-- A number is determined by its digits.
use Rattle.std.proofs.Common.{◌≡◌, ℕ, ◌<◌, ◌≤◌, ◌^◌, ℤ, pos, negsuc, ◌≤ℤ◌, List, ◌∷◌, [], ◌++◌, ◌+◌, ◌%◌, decimal, Ok, Result, sym, ap, ◌∙◌, arith}
use Rattle.std.specs.Fmt.{signed_decimal}
use Rattle.std.specs.Str.Parse.{ParsesUnsigned, digits_value}
use Rattle.std.proofs.lemmas.Int.{ints}
use Rattle.std.proofs.lemmas.Fmt.{parse-decimal_wide, decimal_is_IsNumeral_wide, decimal_by_steps_wide}
use Rattle.std.specs.List.{AllByRecursion as ByRecursion}
use Rattle.reply_reader.specs.InRange.{IsCoordinate}
use Rattle.reply_reader.specs.Forms.{word}
use Rattle.reply_reader.specs.Fields.{IsCoordinateAt}

-- a number is spelled by digits
pub digits_above : (n : ℕ) → n < 10 ^ 64 → ByRecursion (λ c. 48 ≤ c) (decimal n)
digits_above = decimal_by_steps_wide (λ (n : ℕ) (ds : List ℕ). ByRecursion (λ c. 48 ≤ c) ds)
    (λ n lt. (omega arith, tt)) (λ n ds ge h. more ds (n % 10) h)
  where
    more : (ds : List ℕ) (d : ℕ) → ByRecursion (λ c. 48 ≤ c) ds → ByRecursion (λ c. 48 ≤ c) (ds ++ (48 + d) ∷ [])
    more [] d h = (omega arith, tt)
    more (x ∷ ds) d h = (h.0, more ds d h.1)

pub same_decimal : (m n : ℕ) → m < 10 ^ 64 → n < 10 ^ 64 → decimal m ≡ decimal n → m ≡ n
same_decimal m n hm hn e = sym (decimal_is_IsNumeral_wide m hm).1 ∙ ap (digits_value 10) e ∙ (decimal_is_IsNumeral_wide n hn).1

pub same_signed : (a b : ℤ) → pos 0 ≤ℤ a → pos 0 ≤ℤ b → IsCoordinate a → IsCoordinate b → signed_decimal a ≡ signed_decimal b → a ≡ b
same_signed (pos m) (pos n) fa fb ta tb e =
    let hm : m < 10 ^ 64 = omega (arith, ints) in
    let hn : n < 10 ^ 64 = omega (arith, ints) in
    ap pos (same_decimal m n hm hn e)
same_signed (negsuc m) b fa fb ta tb e = absurd (omega (arith, ints))
same_signed (pos m) (negsuc n) fa fb ta tb e = absurd (omega (arith, ints))

-- the coordinate in a place is one
pub same_coordinate : (ws : List (List ℕ)) (k : ℕ) (a b : ℤ) → IsCoordinateAt ws k a → IsCoordinateAt ws k b → a ≡ b
same_coordinate ws k a b ha hb = same_signed a b ha.from hb.from ha.to hb.to (ha.spelled ∙ sym hb.spelled)

-- digits that are read as one number are those of no other
pub not_decimal : {E : Type 0} (word : List ℕ) (n v : ℕ) (r : Result ℕ E) → n < 2 ^ 128 → decimal n ≡ word → ParsesUnsigned 128 10 word r → r ≡ Ok v → n ≡ v
not_decimal word n v r lt is parsed ok =
    let wide : n < 10 ^ 64 = omega arith in
    let read : r ≡ Ok n = parse-decimal_wide 128 n word r lt wide (sym is) parsed in
    let both : Ok n ≡ Ok v = sym read ∙ ok in cc
