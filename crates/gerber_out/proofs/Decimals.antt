-- A number is determined by its digits, and ends where a byte stands that is no digit.
use Rattle.std.proofs.Common.{◌≡◌, ◌≢◌, ℕ, ◌<◌, ◌≤◌, ◌^◌, List, ◌∷◌, [], ◌++◌, ◌+◌, ◌%◌, decimal, Ok, Result, All, ◌⊎◌, inl, inr, refl, sym, ap, ◌∙◌, arith, subst}
use Rattle.std.specs.Str.Parse.{ParsesUnsigned, digits_value}
use Rattle.std.proofs.lemmas.Fmt.{parse-decimal_wide, decimal_is_IsNumeral_wide, decimal_by_steps_wide}
use Rattle.std.proofs.lemmas.List.Elements.{recursion_from_All}
use Rattle.std.specs.List.{AllByRecursion as ByRecursion}

-- a digit
record IsDigit (c : ℕ) : Type 0 where
  least : 48 ≤ c
  most : c ≤ 57

digits : (n : ℕ) → n < 10 ^ 64 → ByRecursion IsDigit (decimal n)
digits = decimal_by_steps_wide (λ (n : ℕ) (ds : List ℕ). ByRecursion IsDigit ds)
    (λ n lt. (record { least = omega arith; most = omega arith }, tt)) (λ n ds ge h. more ds n h)
  where
    more : (ds : List ℕ) (n : ℕ) → ByRecursion IsDigit ds → ByRecursion IsDigit (ds ++ (48 + n % 10) ∷ [])
    more [] n h = (record { least = omega arith; most = omega arith }, tt)
    more (x ∷ ds) n h = (h.0, more ds n h.1)

pub same_decimal : (m n : ℕ) → m < 10 ^ 64 → n < 10 ^ 64 → decimal m ≡ decimal n → m ≡ n
same_decimal m n hm hn e = sym (decimal_is_IsNumeral_wide m hm).1 ∙ ap (digits_value 10) e ∙ (decimal_is_IsNumeral_wide n hn).1

-- digits that are read as one number are those of no other
pub not_decimal : {E : Type 0} (word : List ℕ) (n v : ℕ) (r : Result ℕ E) → n < 2 ^ 64 → decimal n ≡ word → ParsesUnsigned 64 10 word r → r ≡ Ok v → n ≡ v
not_decimal word n v r lt is parsed ok =
    let wide : n < 10 ^ 64 = omega arith in
    let read : r ≡ Ok n = parse-decimal_wide 64 n word r lt wide (sym is) parsed in
    let both : Ok n ≡ Ok v = sym read ∙ ok in cc

not_byte : (b : ℕ) (ds : List ℕ) → (b < 48) ⊎ (57 < b) → ByRecursion IsDigit ds → ByRecursion (λ c. c ≢ b) ds
not_byte b [] far h = tt
not_byte b (d ∷ ds) far h = ((λ e. from far e h.0), not_byte b ds far h.1)
  where
    from : (b < 48) ⊎ (57 < b) → d ≡ b → IsDigit d → ⊥
    from (inl lt) e is = absurd (omega arith)
    from (inr lt) e is = absurd (omega arith)

decimal_ends : (end n : ℕ) → 57 < end → n < 10 ^ 64 → ByRecursion (λ c. c ≢ end) (decimal n)
decimal_ends end n lt wide = not_byte end (decimal n) (inr lt) (digits n wide)

pub no_feed : (n : ℕ) → n < 10 ^ 64 → ByRecursion (λ c. c ≢ 10) (decimal n)
no_feed n wide = not_byte 10 (decimal n) (inl (omega arith)) (digits n wide)

cut_once : (end : ℕ) (xs ys s t : List ℕ) → ByRecursion (λ c. c ≢ end) xs → ByRecursion (λ c. c ≢ end) ys
    → xs ++ end ∷ s ≡ ys ++ end ∷ t → (xs ≡ ys) × (s ≡ t)
cut_once end [] [] s t hx hy e = (refl, (cc))
cut_once end [] (y ∷ ys) s t hx hy e = let same : y ≡ end = cc in absurd (hy.0 same)
cut_once end (x ∷ xs) [] s t hx hy e = let same : x ≡ end = cc in absurd (hx.0 same)
cut_once end (x ∷ xs) (y ∷ ys) s t hx hy e =
    let same : x ≡ y = cc in
    let rest : xs ++ end ∷ s ≡ ys ++ end ∷ t = cc in
    let r = cut_once end xs ys s t hx.1 hy.1 rest in
    let front = r.0 in ((cc), r.1)

no_end : (end : ℕ) (xs t : List ℕ) → ByRecursion (λ c. c ≢ end) (xs ++ end ∷ t) → ⊥
no_end end [] t h = h.0 refl
no_end end (x ∷ xs) t h = no_end end xs t h.1

-- bytes without this byte do not begin with a number before it
pub not_before : (bytes : List ℕ) (end : ℕ) → All (λ b. b ≢ end) bytes → (n : ℕ) (rest : List ℕ) → bytes ≡ decimal n ++ end ∷ rest → ⊥
not_before bytes end none n rest e =
    let P : List ℕ → Type 0 = λ l. ByRecursion (λ c. c ≢ end) l in
    no_end end (decimal n) rest (subst P e (recursion_from_All (λ b. b ≢ end) bytes none))

-- what stands before the first such byte is the number
pub before_first : (bytes digits after : List ℕ) (end : ℕ) → 57 < end → All (λ b. b ≢ end) digits → bytes ≡ digits ++ end ∷ after
    → (n : ℕ) (rest : List ℕ) → n < 10 ^ 64 → bytes ≡ decimal n ++ end ∷ rest → decimal n ≡ digits
before_first bytes digits after end lt none cut n rest wide e =
    (cut_once end (decimal n) digits rest after (decimal_ends end n lt wide) (recursion_from_All (λ b. b ≢ end) digits none) (sym e ∙ cut)).0

-- two numbers before such a byte are one, and so is what stands behind them
pub before_once : (bytes : List ℕ) (end m n : ℕ) (s t : List ℕ) → 57 < end → m < 10 ^ 64 → n < 10 ^ 64
    → bytes ≡ decimal m ++ end ∷ s → bytes ≡ decimal n ++ end ∷ t → (m ≡ n) × (s ≡ t)
before_once bytes end m n s t lt hm hn e f =
    let r = cut_once end (decimal m) (decimal n) s t (decimal_ends end m lt hm) (decimal_ends end n lt hn) (sym e ∙ f) in
    (same_decimal m n hm hn r.0, r.1)
