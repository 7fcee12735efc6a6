-- Lists that are made from the numbers of a range.
use Rattle.std.proofs.Common.{◌≡◌, ℕ, ◌+◌, ◌-◌, ◌<◌, ◌≤◌, suc, zero, List, [], ◌∷◌, ◌++◌, All, length, map, refl, sym, ap, ◌∙◌, arith, subst, length-append}
use Rattle.std.specs.List.{range_with_len, flat_map}
use Rattle.std.proofs.lemmas.List.Elements.{All-nil, All-append}
use Rattle.std.proofs.lemmas.List.Concat.{flat_map_single}
use Rattle.std.proofs.lemmas.List.FromFn.{get_or-map-range_with_len, length-map-range_with_len}
use Rattle.board_reader.proofs.Ranges.{flat_map-next}

-- one item more of those that are left
pub map-next : {T : Type 0} (f : ℕ → T) (i n : ℕ) (front : List T) → i < n
    → (front ++ f i ∷ []) ++ map f (range_with_len (i + 1) (n - (i + 1))) ≡ front ++ map f (range_with_len i (n - i))
map-next f i n front h =
    ap (λ l. (front ++ f i ∷ []) ++ l) (sym (flat_map_single f (range_with_len (i + 1) (n - (i + 1)))))
    ∙ (flat_map-next (λ k. f k ∷ []) i n front h ∙ ap (λ l. front ++ l) (flat_map_single f (range_with_len i (n - i))))

-- what holds at each number of the range holds of each item
pub map-all : {T : Type 0} (P : T → Type 0) (f : ℕ → T) (a n : ℕ) → ((k : ℕ) → a ≤ k → k < a + n → P (f k)) → All P (map f (range_with_len a n))
map-all P f a n h i d inside =
    let lt : i < n = omega (arith, length-map-range_with_len f a n) in
    subst P (sym (get_or-map-range_with_len f a n i (a + i) d lt refl)) (h (a + i) (omega arith) (omega arith))

pub flat_map-all : {T : Type 0} (P : T → Type 0) (f : ℕ → List T) (n a : ℕ) → ((k : ℕ) → a ≤ k → k < a + n → All P (f k)) → All P (flat_map f (range_with_len a n))
flat_map-all P f zero a h = All-nil P
flat_map-all P f (suc n) a h =
    All-append P (f a) (flat_map f (range_with_len (a + 1) n)) (h a (omega arith) (omega arith)) (flat_map-all P f n (a + 1) (λ k l m. h k (omega arith) (omega arith)))

pub flat_map-pairs : {T : Type 0} (f : ℕ → List T) (n a : ℕ) → ((k : ℕ) → length (f k) ≡ 2) → length (flat_map f (range_with_len a n)) ≡ n + n
flat_map-pairs f zero a h = refl
flat_map-pairs f (suc n) a h =
    let two = h a in
    let rest = flat_map-pairs f n (a + 1) h in
    length-append (f a) (flat_map f (range_with_len (a + 1) n)) ∙ omega (arith, two, rest)
