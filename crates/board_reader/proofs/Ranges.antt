-- A loop that counts up, against what it has left.
use Rattle.std.proofs.Common.{◌≡◌, ℕ, ◌+◌, ◌-◌, ◌<◌, suc, Bool, true, List, [], ◌∷◌, ◌++◌, map, Option, Some, None, refl, sym, ap, ◌∙◌, arith, append_assoc}
use Rattle.std.specs.List.{range_with_len, list_all, filter_map, flat_map}

range-next : (i n : ℕ) → i < n → range_with_len i (n - i) ≡ i ∷ range_with_len (i + 1) (n - (i + 1))
range-next i n h = let e : n - i ≡ suc (n - (i + 1)) = omega arith in rw e refl

pub list_all-next : (p : ℕ → Bool) (i n : ℕ) → i < n → p i ≡ true → list_all p (range_with_len (i + 1) (n - (i + 1))) ≡ list_all p (range_with_len i (n - i))
list_all-next p i n h e = rw (range-next i n h, e) refl

filter_map-given : {T : Type 0} (f : ℕ → Option T) (i n : ℕ) (front : List T) (v : T) → i < n → f i ≡ Some v
    → (front ++ v ∷ []) ++ filter_map f (range_with_len (i + 1) (n - (i + 1))) ≡ front ++ filter_map f (range_with_len i (n - i))
filter_map-given f i n front v h e = rw (range-next i n h, e, append_assoc) refl

filter_map-none : {T : Type 0} (f : ℕ → Option T) (i n : ℕ) → i < n → f i ≡ None
    → filter_map f (range_with_len (i + 1) (n - (i + 1))) ≡ filter_map f (range_with_len i (n - i))
filter_map-none f i n h e = rw (range-next i n h, e) refl

pub flat_map-next : {T : Type 0} (f : ℕ → List T) (i n : ℕ) (front : List T) → i < n
    → (front ++ f i) ++ flat_map f (range_with_len (i + 1) (n - (i + 1))) ≡ front ++ flat_map f (range_with_len i (n - i))
flat_map-next f i n front h = rw (range-next i n h, append_assoc) refl

pub map-next : {T : Type 0} (f : ℕ → T) (i n : ℕ) (front : List T) → i < n
    → (front ++ f i ∷ []) ++ map f (range_with_len (i + 1) (n - (i + 1))) ≡ front ++ map f (range_with_len i (n - i))
map-next f i n front h = rw (range-next i n h, append_assoc) refl

-- a row to which a value was pushed, and one to which none was
pub row-given : {T : Type 0} (f : ℕ → Option T) (i n : ℕ) (front new whole : List T) (v : T) → new ≡ front ++ v ∷ [] → i < n → Some v ≡ f i
    → front ++ filter_map f (range_with_len i (n - i)) ≡ whole → new ++ filter_map f (range_with_len (i + 1) (n - (i + 1))) ≡ whole
row-given f i n front new whole v grown h given before =
    ap (λ l. l ++ filter_map f (range_with_len (i + 1) (n - (i + 1)))) grown ∙ (filter_map-given f i n front v h (sym given) ∙ before)

pub row-none : {T : Type 0} (f : ℕ → Option T) (i n : ℕ) (front new whole : List T) → new ≡ front → i < n → None ≡ f i
    → front ++ filter_map f (range_with_len i (n - i)) ≡ whole → new ++ filter_map f (range_with_len (i + 1) (n - (i + 1))) ≡ whole
row-none f i n front new whole same h none before =
    ap (λ l. l ++ filter_map f (range_with_len (i + 1) (n - (i + 1)))) same ∙ (ap (λ l. front ++ l) (filter_map-none f i n h (sym none)) ∙ before)
