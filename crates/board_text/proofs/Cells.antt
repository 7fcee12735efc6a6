-- Tables that are given cell by cell, where a line gives the value of its cell, or the cell has no line.
use Rattle.std.proofs.Common.{◌≡◌, ◌≢◌, ◌⊎◌, ℕ, ◌+◌, ◌<◌, ◌≤◌, suc, zero, true, false, Bool, List, [], ◌∷◌, ◌++◌, Option, Some, None, refl, sym, ap, ◌∙◌, arith, inl, inr, subst}
use Rattle.std.specs.Prelude.{◌==◌, ◌&&◌, if◌then◌else◌}
use Rattle.std.specs.List.{range_with_len, flat_map}
use Rattle.std.proofs.lemmas.Bool.{cases_Bool, cases_eq, cases_lt, cond-true, cond-false, and_from, and_left, and_right, eq-eqb, ne_eqb}
use Rattle.board_reader.specs.declared.drafts.Draft.{Draft}
use Rattle.board_reader.specs.declared.tables.Entry.{Entry}
use Rattle.board_reader.specs.Tables.{value_at}
use Rattle.board_text.proofs.Telling.{Tells, tells-none, tells-more}

-- what entries say of a cell, and the entry of a cell and a value
pub record IsTable {K E T : Type 0} (look : List E → K → Option T) (entry : K → T → E) : Type 0 where
  pub none : (k : K) → look [] k ≡ None
  pub here : (es : List E) (k : K) (x : T) → look es k ≡ None → look (es ++ entry k x ∷ []) k ≡ Some x
  pub other : (es : List E) (j k : K) (x : T) → j ≢ k → look (es ++ entry j x ∷ []) k ≡ look es k

-- the entries with one for the cell, if it has a value
abbrev pub with_value : {K E T : Type 0} → (K → T → E) → List E → K → Option T → List E
with_value entry es k None = es
with_value entry es k (Some x) = es ++ entry k x ∷ []

-- the cells that are done are given as they should be, and no other cell is given
pub record AreGiven {K E T : Type 0} (look : List E → K → Option T) (v : K → Option T) (es : List E) (Done : K → Type 0) : Type 0 where
  pub before : (k : K) → Done k → look es k ≡ v k
  pub after : (k : K) → (Done k → ⊥) → look es k ≡ None

-- a text that gives cells until these are done
pub record Gives {K E T : Type 0} (look : List E → K → Option T) (v : K → Option T) (at : List E → Draft) (es : List E) (text : List ℕ) (Done : K → Type 0) : Type 0 where
  pub given : List E
  pub are : AreGiven look v given Done
  pub tells : Tells (at es) text (at given)

-- one more cell
abbrev pub OrHere : {K : Type 0} → (K → Type 0) → K → K → Type 0
OrHere Done j k = Done k ⊎ (k ≡ j)

value-here : {K E T : Type 0} (look : List E → K → Option T) (entry : K → T → E) → IsTable look entry → (es : List E) (j : K) (o : Option T) → look es j ≡ None → look (with_value entry es j o) j ≡ o
value-here look entry t es j None h = h
value-here look entry t es j (Some x) h = t.here es j x h

value-other : {K E T : Type 0} (look : List E → K → Option T) (entry : K → T → E) → IsTable look entry → (es : List E) (j k : K) (o : Option T) → j ≢ k → look (with_value entry es j o) k ≡ look es k
value-other look entry t es j k None n = refl
value-other look entry t es j k (Some x) n = t.other es j k x n

pub given-more : {K E T : Type 0} (look : List E → K → Option T) (entry : K → T → E) → IsTable look entry → (v : K → Option T) (es : List E) (Done : K → Type 0) (j : K) → (Done j → ⊥) → AreGiven look v es Done → AreGiven look v (with_value entry es j (v j)) (OrHere Done j)
given-more look entry t v es Done j new g = record {
  before = λ k d. elim d [
    | inl e ↦ value-other look entry t es j k (v j) (λ same. new (subst Done (sym same) e)) ∙ g.before k e
    | inr e ↦ subst (λ x. look (with_value entry es j (v j)) x ≡ v x) (sym e) (value-here look entry t es j (v j) (g.after j new))
  ];
  after = λ k n. value-other look entry t es j k (v j) (λ same. n (inr (sym same))) ∙ g.after k (λ d. n (inl d));
}

-- the same cells, told otherwise
pub given-same : {K E T : Type 0} (look : List E → K → Option T) (v : K → Option T) (es : List E) (A B : K → Type 0) → ((k : K) → A k → B k) → ((k : K) → B k → A k) → AreGiven look v es A → AreGiven look v es B
given-same look v es A B to from g = record {
  before = λ k d. g.before k (from k d);
  after = λ k n. g.after k (λ d. n (to k d));
}

pub none-given : {K E T : Type 0} (look : List E → K → Option T) (entry : K → T → E) → IsTable look entry → (v : K → Option T) (Done : K → Type 0) → ((k : K) → Done k → ⊥) → AreGiven look v [] Done
none-given look entry t v Done none = record { before = λ k d. absurd (none k d); after = λ k n. t.none k }

-- a number after the other
pub range-gives : {K E T : Type 0} (look : List E → K → Option T) (v : K → Option T) (at : List E → Draft) (text : ℕ → List ℕ) (Done : ℕ → K → Type 0) (n a end : ℕ) → a + n ≡ end
    → ((i : ℕ) (es : List E) → a ≤ i → i < end → AreGiven look v es (Done i) → Gives look v at es (text i) (Done (suc i)))
    → (es : List E) → AreGiven look v es (Done a) → Gives look v at es (flat_map text (range_with_len a n)) (Done end)
range-gives look v at text Done zero a end e body es g =
    let same : a ≡ end = omega arith in
    record { given = es; are = subst (λ k. AreGiven look v es (Done k)) same g; tells = tells-none (at es) }
range-gives look v at text Done (suc n) a end e body es g =
    let one = body a es (omega arith) (omega arith) g in
    let next : suc a ≡ a + 1 = omega arith in
    let rest = range-gives look v at text Done n (a + 1) end (omega arith) (λ i fs l m. body i fs (omega arith) m) one.given (subst (λ k. AreGiven look v one.given (Done k)) next one.are) in
    record { given = rest.given; are = rest.are; tells = tells-more (at es) (at one.given) (at rest.given) (text a) (flat_map text (range_with_len (a + 1) n)) one.tells rest.tells }

-- a line that is there where the cell has a value of its own
pub own-line : {K E T : Type 0} (entry : K → T → E) (at : List E → Draft) (es : List E) (k : K) (x : T) (text : List ℕ) (plain : Bool) → (plain ≡ false → Tells (at es) text (at (es ++ entry k x ∷ [])))
    → Tells (at es) (if plain then [] else text) (at (with_value entry es k (if plain then None else Some x)))
own-line entry at es k x text true line = tells-none (at es)
own-line entry at es k x text false line = line refl

-- a cell of rows and columns
pub record Cell : Type 0 where
  pub row : ℕ
  pub column : ℕ

abbrev pub cell : ℕ → ℕ → Cell
cell r c = record { row = r; column = c }

-- the value of a cell as it is given
abbrev pub entry_at : {T : Type 0} → Cell → T → Entry T
entry_at k x = record { row = k.row; column = k.column; value = x }

abbrev pub value_in : {T : Type 0} → List (Entry T) → Cell → Option T
value_in es k = value_at es k.row k.column

found-first : {T : Type 0} (e : Entry T) (es : List (Entry T)) (r c : ℕ) → (e.row == r && e.column == c) ≡ true → value_at (e ∷ es) r c ≡ Some e.value
unfolding value_at
found-first e es r c h = cond-true _ _ _ h

found-later : {T : Type 0} (e : Entry T) (es : List (Entry T)) (r c : ℕ) → (e.row == r && e.column == c) ≡ false → value_at (e ∷ es) r c ≡ value_at es r c
unfolding value_at
found-later e es r c h = cond-false _ _ _ h

none-at : {T : Type 0} (r c : ℕ) → value_at {T = T} [] r c ≡ None
unfolding value_at
none-at r c = refl

pub found-stays : {T : Type 0} (es fs : List (Entry T)) (r c : ℕ) (x : T) → value_at es r c ≡ Some x → value_at (es ++ fs) r c ≡ Some x
unfolding value_at
found-stays [] fs r c x h = absurd (cc)
found-stays (e ∷ es) fs r c x h =
    elim (cases_Bool (e.row == r && e.column == c)) [
      | inl t ↦ found-first e (es ++ fs) r c t ∙ (sym (found-first e es r c t) ∙ h)
      | inr f ↦ found-later e (es ++ fs) r c f ∙ found-stays es fs r c x (sym (found-later e es r c f) ∙ h)
    ]

pub none-before : {T : Type 0} (es fs : List (Entry T)) (r c : ℕ) → value_at es r c ≡ None → value_at (es ++ fs) r c ≡ value_at fs r c
unfolding value_at
none-before [] fs r c h = refl
none-before (e ∷ es) fs r c h =
    elim (cases_Bool (e.row == r && e.column == c)) [
      | inl t ↦ let s = sym (found-first e es r c t) ∙ h in absurd (cc)
      | inr f ↦ found-later e (es ++ fs) r c f ∙ none-before es fs r c (sym (found-later e es r c f) ∙ h)
    ]

others-stay : {T : Type 0} (es : List (Entry T)) (e : Entry T) (r c : ℕ) → (e.row == r && e.column == c) ≡ false → value_at (es ++ e ∷ []) r c ≡ value_at es r c
others-stay [] e r c n = found-later e [] r c n
others-stay (f ∷ es) e r c n =
    elim (cases_Bool (f.row == r && f.column == c)) [
      | inl t ↦ found-first f (es ++ e ∷ []) r c t ∙ sym (found-first f es r c t)
      | inr l ↦ found-later f (es ++ e ∷ []) r c l ∙ (others-stay es e r c n ∙ sym (found-later f es r c l))
    ]

other-cell : (j k : Cell) → j ≢ k → (j.row == k.row && j.column == k.column) ≡ false
other-cell j k n =
    elim (cases_eq j.row k.row) [
      | inl e ↦ and_right (j.row == k.row) (j.column == k.column) (ne_eqb j.column k.column (λ f. n (λ i. record { row = e i; column = f i })))
      | inr e ↦ and_left (j.row == k.row) (j.column == k.column) (ne_eqb j.row k.row e)
    ]

pub are-table : {T : Type 0} → IsTable (value_in {T = T}) entry_at
are-table = record {
  none = λ k. none-at k.row k.column;
  here = λ es k x none.
      none-before es (entry_at k x ∷ []) k.row k.column none
      ∙ found-first (entry_at k x) [] k.row k.column (and_from (k.row == k.row) (k.column == k.column) (eq-eqb k.row k.row refl) (eq-eqb k.column k.column refl));
  other = λ es j k x n. others-stay es (entry_at j x) k.row k.column (other-cell j k n);
}

-- the first cell stands before the second
abbrev pub IsBefore : ℕ → ℕ → ℕ → ℕ → Type 0
IsBefore r c row column = (r < row) ⊎ ((r ≡ row) × (c < column))

-- row by row, the cells before this one
abbrev pub IsDone : ℕ → ℕ → ℕ → Cell → Type 0
IsDone columns row column k = (k.column < columns) × IsBefore k.row k.column row column

before-or-here : (r c row column : ℕ) → IsBefore r c row (suc column) → IsBefore r c row column ⊎ ((r ≡ row) × (c ≡ column))
before-or-here r c row column (inl l) = inl (inl l)
before-or-here r c row column (inr h) =
    elim (cases_lt c column) [ inl l ↦ inl (inr (h.0, l)) | inr l ↦ let m = h.1 in inr (h.0, omega arith) ]

still-before : (r c row column : ℕ) → IsBefore r c row column → IsBefore r c row (suc column)
still-before r c row column (inl l) = inl l
still-before r c row column (inr h) = let m = h.1 in inr (h.0, omega arith)

not-itself : (r c : ℕ) → IsBefore r c r c → ⊥
not-itself r c (inl l) = omega arith
not-itself r c (inr h) = let l = h.1 in omega arith

row-or-before : (columns r c row : ℕ) → c < columns → IsBefore r c (suc row) 0 → IsBefore r c row columns
row-or-before columns r c row inside (inl l) = elim (cases_lt r row) [ inl m ↦ inl m | inr m ↦ inr (omega arith, inside) ]
row-or-before columns r c row inside (inr h) = let m = h.1 in absurd (omega arith)

before-next : (columns r c row : ℕ) → IsBefore r c row columns → IsBefore r c (suc row) 0
before-next columns r c row (inl l) = inl (omega arith)
before-next columns r c row (inr h) = let e = h.0 in inl (omega arith)

none-done : (columns : ℕ) (k : Cell) → IsDone columns 0 0 k → ⊥
none-done columns k d = elim d.1 [ inl l ↦ omega arith | inr h ↦ let l = h.1 in omega arith ]

here-done : (columns row column : ℕ) (k : Cell) → column < columns → OrHere (IsDone columns row column) (cell row column) k → IsDone columns row (suc column) k
here-done columns row column k inside (inl d) = (d.0, still-before k.row k.column row column d.1)
here-done columns row column k inside (inr e) =
    let r : k.row ≡ row = ap (λ x. x.row) e in
    let c : k.column ≡ column = ap (λ x. x.column) e in
    (omega arith, inr (r, omega arith))

done-here : (columns row column : ℕ) (k : Cell) → IsDone columns row (suc column) k → OrHere (IsDone columns row column) (cell row column) k
done-here columns row column k d =
    elim (before-or-here k.row k.column row column d.1) [
      | inl b ↦ inl (d.0, b)
      | inr e ↦ let r = e.0 in let c = e.1 in inr (λ i. record { row = r i; column = c i })
    ]

-- a line for each cell, row by row
pub grid-gives : {T : Type 0} (at : List (Entry T) → Draft) (text : ℕ → ℕ → List ℕ) (v : Cell → Option T) (rows columns : ℕ)
    → ((r c : ℕ) (es : List (Entry T)) → r < rows → c < columns → value_at es r c ≡ None → Tells (at es) (text r c) (at (with_value entry_at es (cell r c) (v (cell r c)))))
    → Gives value_in v at [] (flat_map (λ r. flat_map (text r) (range_with_len 0 columns)) (range_with_len 0 rows)) (IsDone columns rows 0)
grid-gives {T = T} at text v rows columns step =
    let one : (r c : ℕ) (es : List (Entry T)) → r < rows → c < columns → AreGiven value_in v es (IsDone columns r c) → Gives value_in v at es (text r c) (IsDone columns r (suc c))
    = λ r c es inside within g.
    let new : IsDone columns r c (cell r c) → ⊥ = λ d. not-itself r c d.1 in
    let es' = with_value entry_at es (cell r c) (v (cell r c)) in
    record {
      given = es';
      are = given-same value_in v es' (OrHere (IsDone columns r c) (cell r c)) (IsDone columns r (suc c)) (λ k. here-done columns r c k within) (done-here columns r c) (given-more value_in entry_at are-table v es (IsDone columns r c) (cell r c) new g);
      tells = step r c es inside within (g.after (cell r c) new);
    } in
    let row : (r : ℕ) (es : List (Entry T)) → r < rows → AreGiven value_in v es (IsDone columns r 0) → Gives value_in v at es (flat_map (text r) (range_with_len 0 columns)) (IsDone columns (suc r) 0)
    = λ r es inside g.
    let all = range-gives value_in v at (text r) (IsDone columns r) columns 0 columns (omega arith) (λ c fs l m. one r c fs inside m) es g in
    record {
      given = all.given;
      are = given-same value_in v all.given (IsDone columns r columns) (IsDone columns (suc r) 0) (λ k d. (d.0, before-next columns k.row k.column r d.1)) (λ k d. (d.0, row-or-before columns k.row k.column r d.0 d.1)) all.are;
      tells = all.tells;
    } in
    range-gives value_in v at (λ r. flat_map (text r) (range_with_len 0 columns)) (λ r. IsDone columns r 0) rows 0 rows (omega arith) (λ r fs l m. row r fs m) [] (none-given value_in entry_at are-table v (IsDone columns 0 0) (none-done columns))

-- what is given for a cell once all are done
pub given-cell : {T : Type 0} (v : Cell → Option T) (rows columns : ℕ) (es : List (Entry T)) → AreGiven value_in v es (IsDone columns rows 0) → (r c : ℕ) → r < rows → c < columns → value_at es r c ≡ v (cell r c)
given-cell v rows columns es g r c inside within = g.before (cell r c) (within, inl inside)
