-- Rows of one length, one after the other, and what stands in them.
use Rattle.std.proofs.Common.{◌≡◌, ℕ, zero, suc, ◌+◌, ◌*◌, ◌<◌, List, [], ◌∷◌, ◌++◌, length, get_or, refl, ap, ◌∙◌, arith, length-append}
use Rattle.std.specs.List.{range_with_len, flat_map, AllByRecursion}
use Rattle.std.proofs.lemmas.List.{get_or_append_left, get_or-append-add}
use Rattle.std.proofs.lemmas.List.FromFn.{get_or-range_with_len}

-- each row has n items
abbrev pub AreEven : {T : Type 0} → (ℕ → List T) → ℕ → List ℕ → Type 0
AreEven g n xs = AllByRecursion (λ x. length (g x) ≡ n) xs

pub each-even : {T : Type 0} (g : ℕ → List T) (n : ℕ) → ((x : ℕ) → length (g x) ≡ n) → (xs : List ℕ) → AreEven g n xs
each-even g n h [] = tt
each-even g n h (x ∷ xs) = (h x, each-even g n h xs)

pub length-rows : {T : Type 0} (g : ℕ → List T) (n : ℕ) (xs : List ℕ) → AreEven g n xs → length (flat_map g xs) ≡ length xs * n
length-rows g n [] e = omega arith
length-rows g n (x ∷ xs) e =
    let row = e.0 in
    let rest = length-rows g n xs e.1 in
    length-append (g x) (flat_map g xs) ∙ omega (arith, row, rest)

-- item j of row i stands after i whole rows
pub row-item : {T : Type 0} (g : ℕ → List T) (n : ℕ) (xs : List ℕ) (i j : ℕ) (d : T) → AreEven g n xs → i < length xs → j < n
    → get_or (flat_map g xs) (i * n + j) d ≡ get_or (g (get_or xs i 0)) j d
row-item g n [] i j d e lt m = absurd (omega (arith, lt))
row-item g n (x ∷ xs) zero j d e lt m =
    let row = e.0 in
    let place : zero * n + j ≡ j = omega arith in
    ap (λ k. get_or (g x ++ flat_map g xs) k d) place ∙ get_or_append_left (g x) (flat_map g xs) d j (omega (arith, m, row))
row-item g n (x ∷ xs) (suc i) j d e lt m =
    let row = e.0 in
    let place : suc i * n + j ≡ length (g x) + (i * n + j) = omega (arith, row) in
    ap (λ k. get_or (g x ++ flat_map g xs) k d) place ∙ (get_or-append-add (g x) (flat_map g xs) (i * n + j) d ∙ row-item g n xs i j d e.1 (omega (arith, lt)) m)

pub length-range : (a n : ℕ) → length (range_with_len a n) ≡ n
length-range a zero = refl
length-range a (suc n) = ap (λ k. suc k) (length-range (a + 1) n)

pub range-at : (n i : ℕ) → i < n → get_or (range_with_len 0 n) i 0 ≡ i
range-at n i h = get_or-range_with_len 0 n i 0 h ∙ omega arith

-- the same of rows that are numbered from 0
pub numbered-item : {T : Type 0} (g : ℕ → List T) (n rows i j : ℕ) (d : T) → AreEven g n (range_with_len 0 rows) → i < rows → j < n
    → get_or (flat_map g (range_with_len 0 rows)) (i * n + j) d ≡ get_or (g i) j d
numbered-item g n rows i j d e lt m =
    let all = length-range 0 rows in
    row-item g n (range_with_len 0 rows) i j d e (omega (arith, lt, all)) m ∙ ap (λ k. get_or (g k) j d) (range-at rows i lt)
