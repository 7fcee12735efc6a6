-- Lists that are laid out by rows and columns.
use Rattle.std.proofs.Common.{◌≡◌, ℕ, ◌+◌, ◌*◌, ◌<◌, ◌≤◌, suc, zero, true, Bool, List, [], ◌∷◌, ◌++◌, Option, Some, length, get_or, drop, map, refl, sym, ap, ◌∙◌, arith, subst, append_assoc}
use Rattle.std.specs.Prelude.{is_some}
use Rattle.std.specs.List.{range_with_len, flat_map, filter_map, list_all, cons_option}
use Rattle.std.proofs.Math.Seq.{drop-cons}
use Rattle.std.proofs.Math.Nat.{mul-le-mul_right}
use Rattle.std.proofs.lemmas.Bool.{and_from}
use Rattle.std.proofs.lemmas.List.{append-nil, drop_all}
use Rattle.board_reader.specs.declared.tables.Entry.{Entry}
use Rattle.board_reader.specs.Tables.{value_at, is_full_row, is_full, row_of, table}

-- each cell has this value
abbrev pub HasEach : {T : Type 0} → List (Entry T) → (ℕ → ℕ → T) → ℕ → ℕ → Type 0
HasEach es v rows columns = (r c : ℕ) → r < rows → c < columns → value_at es r c ≡ Some (v r c)

range-all : (p : ℕ → Bool) (n a : ℕ) → ((k : ℕ) → k < a + n → p k ≡ true) → list_all p (range_with_len a n) ≡ true
range-all p zero a h = refl
range-all p (suc n) a h = and_from (p a) (list_all p (range_with_len (a + 1) n)) (h a (omega arith)) (range-all p n (a + 1) (λ k l. h k (omega arith)))

range-map : {T : Type 0} (f : ℕ → Option T) (v : ℕ → T) (n a : ℕ) → ((k : ℕ) → k < a + n → f k ≡ Some (v k)) → filter_map f (range_with_len a n) ≡ map v (range_with_len a n)
range-map f v zero a h = refl
range-map f v (suc n) a h =
    ap (λ o. cons_option o (filter_map f (range_with_len (a + 1) n))) (h a (omega arith)) ∙ ap (λ l. v a ∷ l) (range-map f v n (a + 1) (λ k l. h k (omega arith)))

pub range-same : {T : Type 0} (f g : ℕ → T) (n a : ℕ) → ((k : ℕ) → k < a + n → f k ≡ g k) → map f (range_with_len a n) ≡ map g (range_with_len a n)
range-same f g zero a h = refl
range-same f g (suc n) a h = λ i. h a (omega arith) i ∷ range-same f g n (a + 1) (λ k l. h k (omega arith)) i

pub range-flat : {T : Type 0} (f g : ℕ → List T) (n a : ℕ) → ((k : ℕ) → k < a + n → f k ≡ g k) → flat_map f (range_with_len a n) ≡ flat_map g (range_with_len a n)
range-flat f g zero a h = refl
range-flat f g (suc n) a h = λ i. h a (omega arith) i ++ range-flat f g n (a + 1) (λ k l. h k (omega arith)) i

pub each-full : {T : Type 0} (v : ℕ → ℕ → T) (rows columns : ℕ) (es : List (Entry T)) → HasEach es v rows columns → is_full es rows columns ≡ true
each-full v rows columns es h =
    range-all (is_full_row es columns) rows 0 (λ r l. range-all (λ c. is_some (value_at es r c)) columns 0 (λ c m. ap is_some (h r c (omega arith) (omega arith))))

each-table : {T : Type 0} (v : ℕ → ℕ → T) (rows columns : ℕ) (es : List (Entry T)) → HasEach es v rows columns → table es rows columns ≡ flat_map (λ r. map (v r) (range_with_len 0 columns)) (range_with_len 0 rows)
each-table v rows columns es h =
    range-flat (row_of es columns) (λ r. map (v r) (range_with_len 0 columns)) rows 0 (λ r l. range-map (value_at es r) (v r) columns 0 (λ c m. h r c (omega arith) (omega arith)))

-- the value of a cell of a list that is laid out by rows
abbrev pub laid : {T : Type 0} → List T → T → ℕ → ℕ → ℕ → T
laid xs d columns r c = get_or xs (r * columns + c) d

row-of-list : {T : Type 0} (xs : List T) (d : T) (o n c : ℕ) → o + c + n ≤ length xs → map (λ k. get_or xs (o + k) d) (range_with_len c n) ++ drop (o + c + n) xs ≡ drop (o + c) xs
row-of-list xs d o zero c h = ap (λ k. drop k xs) (omega arith)
row-of-list xs d o (suc n) c h =
    let shift : o + c + suc n ≡ o + (c + 1) + n = omega arith in
    let next : o + (c + 1) ≡ suc (o + c) = omega arith in
    ap (λ l. get_or xs (o + c) d ∷ l) (ap (λ k. map (λ j. get_or xs (o + j) d) (range_with_len (c + 1) n) ++ drop k xs) shift ∙ (row-of-list xs d o n (c + 1) (omega arith) ∙ ap (λ k. drop k xs) next))
    ∙ sym (drop-cons xs (o + c) d (omega arith))

whole-row : {T : Type 0} (xs : List T) (d : T) (columns r : ℕ) → (r + 1) * columns ≤ length xs → map (laid xs d columns r) (range_with_len 0 columns) ++ drop ((r + 1) * columns) xs ≡ drop (r * columns) xs
whole-row xs d columns r h =
    let end : (r + 1) * columns ≡ r * columns + 0 + columns = omega arith in
    let start : r * columns + 0 ≡ r * columns = omega arith in
    ap (λ k. map (laid xs d columns r) (range_with_len 0 columns) ++ drop k xs) end ∙ (row-of-list xs d (r * columns) columns 0 (omega (arith, h, end)) ∙ ap (λ k. drop k xs) start)

-- some rows, from row o + r on
rows-of-list : {T : Type 0} (xs : List T) (d : T) (columns o n r : ℕ) → (o + r + n) * columns ≤ length xs
    → flat_map (λ k. map (laid xs d columns (o + k)) (range_with_len 0 columns)) (range_with_len r n) ++ drop ((o + r + n) * columns) xs ≡ drop ((o + r) * columns) xs
rows-of-list xs d columns o zero r h = let same : o + r + 0 ≡ o + r = omega arith in ap (λ k. drop (k * columns) xs) same
rows-of-list xs d columns o (suc n) r h =
    let row = map (laid xs d columns (o + r)) (range_with_len 0 columns) in
    let rest = flat_map (λ k. map (laid xs d columns (o + k)) (range_with_len 0 columns)) (range_with_len (r + 1) n) in
    let shift : o + r + suc n ≡ o + (r + 1) + n = omega arith in
    let next : o + (r + 1) ≡ o + r + 1 = omega arith in
    let within : (o + r + 1) * columns ≤ (o + r + suc n) * columns = mul-le-mul_right columns (omega arith) in
    append_assoc row rest (drop ((o + r + suc n) * columns) xs)
    ∙ (ap (λ k. row ++ (rest ++ drop (k * columns) xs)) shift
    ∙ (ap (λ l. row ++ l) (rows-of-list xs d columns o n (r + 1) (subst (λ k. k * columns ≤ length xs) shift h) ∙ ap (λ k. drop (k * columns) xs) next)
    ∙ whole-row xs d columns (o + r) (omega (arith, within, h))))

list-by-rows : {T : Type 0} (xs : List T) (d : T) (rows columns : ℕ) → length xs ≡ rows * columns → flat_map (λ r. map (laid xs d columns r) (range_with_len 0 columns)) (range_with_len 0 rows) ≡ xs
list-by-rows xs d rows columns size =
    let text = flat_map (λ r. map (laid xs d columns r) (range_with_len 0 columns)) (range_with_len 0 rows) in
    let fits : (0 + 0 + rows) * columns ≤ length xs = let e : 0 + 0 + rows ≡ rows = omega arith in subst (λ k. k * columns ≤ length xs) (sym e) (omega (arith, size)) in
    let end : drop ((0 + 0 + rows) * columns) xs ≡ [] = drop_all ((0 + 0 + rows) * columns) xs (let e : 0 + 0 + rows ≡ rows = omega arith in subst (λ k. length xs ≤ k * columns) (sym e) (omega (arith, size))) in
    let start : (0 + 0) * columns ≡ 0 = omega arith in
    let from_none = flat_map (λ k. map (laid xs d columns (0 + k)) (range_with_len 0 columns)) (range_with_len 0 rows) in
    let same : text ≡ from_none = range-flat (λ r. map (laid xs d columns r) (range_with_len 0 columns)) (λ k. map (laid xs d columns (0 + k)) (range_with_len 0 columns)) rows 0
    (λ k l. let e : k ≡ 0 + k = omega arith in ap (λ r. map (laid xs d columns r) (range_with_len 0 columns)) e) in
    same ∙ (sym (append-nil from_none) ∙ (ap (λ l. from_none ++ l) (sym end) ∙ (rows-of-list xs d columns 0 rows 0 fits ∙ ap (λ k. drop k xs) start)))

-- the table is the list that was laid out
pub table-is-list : {T : Type 0} (xs : List T) (d : T) (rows columns : ℕ) (es : List (Entry T)) → length xs ≡ rows * columns → HasEach es (laid xs d columns) rows columns → table es rows columns ≡ xs
table-is-list xs d rows columns es size h = each-table (laid xs d columns) rows columns es h ∙ list-by-rows xs d rows columns size

-- some squares of rows, from square s on
squares-of-list : {T : Type 0} (xs : List T) (d : T) (columns n s : ℕ) → ((s + n) * columns) * columns ≤ length xs
    → flat_map (λ j. flat_map (λ k. map (laid xs d columns (j * columns + k)) (range_with_len 0 columns)) (range_with_len 0 columns)) (range_with_len s n) ++ drop (((s + n) * columns) * columns) xs ≡ drop ((s * columns) * columns) xs
squares-of-list xs d columns zero s h = let same : s + 0 ≡ s = omega arith in ap (λ k. drop ((k * columns) * columns) xs) same
squares-of-list xs d columns (suc n) s h =
    let square = flat_map (λ k. map (laid xs d columns (s * columns + k)) (range_with_len 0 columns)) (range_with_len 0 columns) in
    let rest = flat_map (λ j. flat_map (λ k. map (laid xs d columns (j * columns + k)) (range_with_len 0 columns)) (range_with_len 0 columns)) (range_with_len (s + 1) n) in
    let shift : s + suc n ≡ s + 1 + n = omega arith in
    let within : (s + 1) * columns ≤ (s + suc n) * columns = mul-le-mul_right columns (omega arith) in
    let square_within : ((s + 1) * columns) * columns ≤ ((s + suc n) * columns) * columns = mul-le-mul_right columns within in
    let end : (s + 1) * columns ≡ s * columns + 0 + columns = omega arith in
    let start : s * columns + 0 ≡ s * columns = omega arith in
    let fits : (s * columns + 0 + columns) * columns ≤ length xs = subst (λ k. k * columns ≤ length xs) end (omega (arith, square_within, h)) in
    append_assoc square rest (drop (((s + suc n) * columns) * columns) xs)
    ∙ (ap (λ k. square ++ (rest ++ drop ((k * columns) * columns) xs)) shift
    ∙ (ap (λ l. square ++ l) (squares-of-list xs d columns n (s + 1) (subst (λ k. (k * columns) * columns ≤ length xs) shift h) ∙ ap (λ k. drop (k * columns) xs) end)
    ∙ (rows-of-list xs d columns (s * columns) columns 0 fits ∙ ap (λ k. drop (k * columns) xs) start)))

pub list-by-squares : {T : Type 0} (xs : List T) (d : T) (squares columns : ℕ) → length xs ≡ (squares * columns) * columns
    → flat_map (λ j. flat_map (λ k. map (laid xs d columns (j * columns + k)) (range_with_len 0 columns)) (range_with_len 0 columns)) (range_with_len 0 squares) ≡ xs
list-by-squares xs d squares columns size =
    let text = flat_map (λ j. flat_map (λ k. map (laid xs d columns (j * columns + k)) (range_with_len 0 columns)) (range_with_len 0 columns)) (range_with_len 0 squares) in
    let none : 0 + squares ≡ squares = omega arith in
    let fits : ((0 + squares) * columns) * columns ≤ length xs = subst (λ k. (k * columns) * columns ≤ length xs) (sym none) (omega (arith, size)) in
    let end : drop (((0 + squares) * columns) * columns) xs ≡ [] = drop_all (((0 + squares) * columns) * columns) xs (subst (λ k. length xs ≤ (k * columns) * columns) (sym none) (omega (arith, size))) in
    let first : 0 * columns ≡ 0 = omega arith in
    let start : (0 * columns) * columns ≡ 0 = ap (λ k. k * columns) first ∙ first in
    sym (append-nil text) ∙ (ap (λ l. text ++ l) (sym end) ∙ (squares-of-list xs d columns squares 0 fits ∙ ap (λ k. drop k xs) start))

-- a cell of a table has its place in the list
pub cell-inside : (rows columns r c size : ℕ) → size ≡ rows * columns → r < rows → c < columns → r * columns + c < size
cell-inside rows columns r c size e inside within =
    let m : (r + 1) * columns ≤ rows * columns = mul-le-mul_right columns (omega arith) in
    let f : (r + 1) * columns ≡ r * columns + columns = omega arith in
    omega (arith, m, f, e)
