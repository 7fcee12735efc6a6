-- A table that has a value for each row and column.
use Rattle.std.proofs.Common.{◌≡◌, ℕ, ◌+◌, ◌*◌, ◌<◌, suc, zero, Bool, true, List, [], ◌∷◌, All, Option, Some, None, unwrap_or, length, get_or, refl, sym, ap, ◌∙◌, arith, inl, inr, subst}
use Rattle.std.specs.Prelude.{◌&&◌, ◌==◌, is_some}
use Rattle.std.specs.List.{range_with_len, list_all, filter_map, flat_map, cons_option}
use Rattle.std.proofs.lemmas.Bool.{and_parts, cases_Bool, cond-true, cond-false, false≢true}
use Rattle.std.proofs.lemmas.List.Elements.{All-cons, All-nil, All-append, All-head, All-tail}
use Rattle.board_reader.specs.declared.tables.Entry.{Entry}
use Rattle.board_reader.specs.Tables.{value_at, is_full_row, is_full, row_of, table}
use Rattle.board_reader.proofs.Evens.{AreEven, length-rows, length-range, range-at, numbered-item}

length-cons_option : {T : Type 0} (o : Option T) (xs : List T) → is_some o ≡ true → length (cons_option o xs) ≡ suc (length xs)
length-cons_option None xs e = absurd (false≢true e)
length-cons_option (Some x) xs e = refl

length-row : {T : Type 0} (f : ℕ → Option T) (xs : List ℕ) → list_all (λ x. is_some (f x)) xs ≡ true → length (filter_map f xs) ≡ length xs
length-row f [] e = refl
length-row f (x ∷ xs) e =
    let p = and_parts (is_some (f x)) (list_all (λ y. is_some (f y)) xs) e in
    length-cons_option (f x) (filter_map f xs) p.0 ∙ ap (λ k. suc k) (length-row f xs p.1)

full-rows : {T : Type 0} (es : List (Entry T)) (columns : ℕ) (xs : List ℕ) → list_all (is_full_row es columns) xs ≡ true → AreEven (row_of es columns) columns xs
full-rows es columns [] e = tt
full-rows es columns (x ∷ xs) e =
    let p = and_parts (is_full_row es columns x) (list_all (is_full_row es columns) xs) e in
    (length-row (value_at es x) (range_with_len 0 columns) p.0 ∙ length-range 0 columns, full-rows es columns xs p.1)

pub length-table : {T : Type 0} (es : List (Entry T)) (rows columns : ℕ) → is_full es rows columns ≡ true → length (table es rows columns) ≡ rows * columns
length-table es rows columns e =
    length-rows (row_of es columns) columns (range_with_len 0 rows) (full-rows es columns (range_with_len 0 rows) e) ∙ ap (λ n. n * columns) (length-range 0 rows)

-- what passes at each number passes at one
passes-at : (p : ℕ → Bool) (xs : List ℕ) (i : ℕ) → list_all p xs ≡ true → i < length xs → p (get_or xs i 0) ≡ true
passes-at p [] i e lt = absurd (omega (arith, lt))
passes-at p (x ∷ xs) zero e lt = (and_parts (p x) (list_all p xs) e).0
passes-at p (x ∷ xs) (suc i) e lt = passes-at p xs i (and_parts (p x) (list_all p xs) e).1 (omega (arith, lt))

cons-item : {T : Type 0} (o : Option T) (xs : List T) (d : T) → is_some o ≡ true → get_or (cons_option o xs) 0 d ≡ unwrap_or o d
cons-item None xs d e = absurd (false≢true e)
cons-item (Some x) xs d e = refl

cons-later : {T : Type 0} (o : Option T) (xs : List T) (j : ℕ) (d : T) → is_some o ≡ true → get_or (cons_option o xs) (suc j) d ≡ get_or xs j d
cons-later None xs j d e = absurd (false≢true e)
cons-later (Some x) xs j d e = refl

-- where each has a value, the values stand in the places of what they are of
item-of-row : {T : Type 0} (f : ℕ → Option T) (xs : List ℕ) (j : ℕ) (d : T) → list_all (λ x. is_some (f x)) xs ≡ true → j < length xs
    → get_or (filter_map f xs) j d ≡ unwrap_or (f (get_or xs j 0)) d
item-of-row f [] j d e lt = absurd (omega (arith, lt))
item-of-row f (x ∷ xs) zero d e lt = cons-item (f x) (filter_map f xs) d (and_parts (is_some (f x)) (list_all (λ y. is_some (f y)) xs) e).0
item-of-row f (x ∷ xs) (suc j) d e lt =
    let p = and_parts (is_some (f x)) (list_all (λ y. is_some (f y)) xs) e in
    cons-later (f x) (filter_map f xs) j d p.0 ∙ item-of-row f xs j d p.1 (omega (arith, lt))

-- the value of a row and a column stands in its place of the table
pub cell : {T : Type 0} (es : List (Entry T)) (rows columns row column : ℕ) (d : T) → is_full es rows columns ≡ true → row < rows → column < columns
    → get_or (table es rows columns) (row * columns + column) d ≡ unwrap_or (value_at es row column) d
cell es rows columns row column d e r c =
    let full : is_full_row es columns row ≡ true =
    ap (is_full_row es columns) (sym (range-at rows row r)) ∙ passes-at (is_full_row es columns) (range_with_len 0 rows) row e (rw (length-range 0 rows) r) in
    numbered-item (row_of es columns) columns rows row column d (full-rows es columns (range_with_len 0 rows) e) r c
    ∙ (item-of-row (value_at es row) (range_with_len 0 columns) column d full (rw (length-range 0 columns) c)
    ∙ ap (λ k. unwrap_or (value_at es row k) d) (range-at columns column c))

pub value-holds : {T : Type 0} (P : T → Type 0) (es : List (Entry T)) (row column : ℕ) (v : T) → All (λ (e : Entry T). P e.value) es → value_at es row column ≡ Some v → P v
unfolding value_at
value-holds P [] row column v h e = absurd (cc)
value-holds P (x ∷ xs) row column v h e =
    elim (cases_Bool (x.row == row && x.column == column)) [
      | inl here ↦
          let found = sym (cond-true (x.row == row && x.column == column) (Some x.value) (value_at xs row column) here) ∙ e in
          let same : x.value ≡ v = cc in
          subst P same (All-head (λ (y : Entry _). P y.value) x xs h)
      | inr later ↦
          value-holds P xs row column v (All-tail (λ (y : Entry _). P y.value) x xs h)
          (sym (cond-false (x.row == row && x.column == column) (Some x.value) (value_at xs row column) later) ∙ e)
    ]

cons-holds : {T : Type 0} (P : T → Type 0) (o : Option T) (xs : List T) → ((v : T) → o ≡ Some v → P v) → All P xs → All P (cons_option o xs)
cons-holds P None xs h all = all
cons-holds P (Some x) xs h all = All-cons P x xs (h x refl) all

row-holds : {T : Type 0} (P : T → Type 0) (f : ℕ → Option T) (xs : List ℕ) → ((x : ℕ) (v : T) → f x ≡ Some v → P v) → All P (filter_map f xs)
row-holds P f [] h = All-nil P
row-holds P f (x ∷ xs) h = cons-holds P (f x) (filter_map f xs) (h x) (row-holds P f xs h)

pub rows-hold : {T : Type 0} (P : T → Type 0) (g : ℕ → List T) (xs : List ℕ) → ((x : ℕ) → All P (g x)) → All P (flat_map g xs)
rows-hold P g [] h = All-nil P
rows-hold P g (x ∷ xs) h = All-append P (g x) (flat_map g xs) (h x) (rows-hold P g xs h)

pub table-holds : {T : Type 0} (P : T → Type 0) (es : List (Entry T)) (rows columns : ℕ) → All (λ (e : Entry T). P e.value) es → All P (table es rows columns)
table-holds P es rows columns h =
    rows-hold P (row_of es columns) (range_with_len 0 rows) (λ row. row-holds P (value_at es row) (range_with_len 0 columns) (λ column v e. value-holds P es row column v h e))
