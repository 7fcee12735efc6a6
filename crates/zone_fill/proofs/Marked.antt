-- What is marked of a list, and what of that is known by its place.
use Rattle.std.proofs.Common.{ℕ, zero, suc, ◌≡◌, ◌+◌, ◌<◌, Bool, true, false, List, [], ◌∷◌, ◌++◌, length, take, get_or, Some, inl, inr, refl, sym, ap, subst, ◌∙◌, arith}
use Rattle.std.specs.Prelude.{Contains, slice_get}
use Rattle.std.proofs.lemmas.Bool.{false≢true}
use Rattle.std.proofs.lemmas.List.{take_more, length-take-le}
use Rattle.std.proofs.lemmas.Option.{none-some, same_Some, slice_get_read, slice_get_within, get_or_from_slice_get}
use Rattle.plane_core.specs.declared.strips.Strip.{Strip}
use Rattle.plane_core.specs.Strips.{IsInOrder}
use Rattle.plane_core.proofs.Members.{has_head, has_tail, has_cases, has_none}
use Rattle.zone_fill.specs.Flooding.{IsMarked}
use Rattle.zone_fill.specs.Marks.{marked}

-- what a list contains has a place
pub place_of_item : {X : Type 0} (xs : List X) (x : X) → Contains xs x → (i : ℕ) × (slice_get xs i ≡ Some x)
place_of_item xs x h = (h.0, slice_get_read xs (length xs) h.0 x refl h.1 (sym h.2))

pub item_at_place : {X : Type 0} (xs : List X) (i : ℕ) (x : X) → slice_get xs i ≡ Some x → Contains xs x
item_at_place xs i x e = (i, slice_get_within xs i x e, get_or_from_slice_get xs i x x e)

push_marked : {X : Type 0} (ms : List Bool) (xs : List X) (x : X) → length ms ≡ length xs → marked (ms ++ true ∷ []) (xs ++ x ∷ []) ≡ marked ms xs ++ x ∷ []
push_marked [] [] x e = refl
push_marked [] (y ∷ ys) x e = absurd (omega arith)
push_marked (m ∷ ms) [] x e = absurd (omega arith)
push_marked (true ∷ ms) (y ∷ ys) x e = ap (λ zs. y ∷ zs) (push_marked ms ys x (omega arith))
push_marked (false ∷ ms) (y ∷ ys) x e = push_marked ms ys x (omega arith)

push_unmarked : {X : Type 0} (ms : List Bool) (xs : List X) (x : X) → length ms ≡ length xs → marked (ms ++ false ∷ []) (xs ++ x ∷ []) ≡ marked ms xs
push_unmarked [] [] x e = refl
push_unmarked [] (y ∷ ys) x e = absurd (omega arith)
push_unmarked (m ∷ ms) [] x e = absurd (omega arith)
push_unmarked (true ∷ ms) (y ∷ ys) x e = ap (λ zs. y ∷ zs) (push_unmarked ms ys x (omega arith))
push_unmarked (false ∷ ms) (y ∷ ys) x e = push_unmarked ms ys x (omega arith)

-- one item more, by its mark
module _ {X : Type 0} (ms : List Bool) (xs : List X) (i : ℕ) (each : length ms ≡ length xs) (l : i < length xs) where
  both : length (take i ms) ≡ length (take i xs)
  both = length-take-le i ms (omega (arith, each, l)) ∙ sym (length-take-le i xs (omega (arith, l)))

  as_taken : (m : Bool) (d : X) → get_or ms i false ≡ m → marked (take (i + 1) ms) (take (i + 1) xs) ≡ marked (take i ms ++ m ∷ []) (take i xs ++ get_or xs i d ∷ [])
  as_taken m d h =
      let more : take (i + 1) ms ≡ take i ms ++ m ∷ [] = take_more ms i false (omega (arith, each, l)) ∙ ap (λ (n : Bool). take i ms ++ n ∷ []) h in
      ap (λ ns. marked ns (take (i + 1) xs)) more ∙ ap (marked (take i ms ++ m ∷ [])) (take_more xs i d l)

  pub marked_more : (x : X) → x ≡ get_or xs i x → get_or ms i false ≡ true → marked (take (i + 1) ms) (take (i + 1) xs) ≡ marked (take i ms) (take i xs) ++ x ∷ []
  marked_more x is h =
      as_taken true x h ∙ push_marked (take i ms) (take i xs) (get_or xs i x) both ∙ ap (λ y. marked (take i ms) (take i xs) ++ y ∷ []) (sym is)

  unmarked_by : (d : X) → get_or ms i false ≡ false → marked (take (i + 1) ms) (take (i + 1) xs) ≡ marked (take i ms) (take i xs)
  unmarked_by d h = as_taken false d h ∙ push_unmarked (take i ms) (take i xs) (get_or xs i d) both

  same_by : (ys : List X) → ys ≡ xs → get_or ms i false ≡ false → marked (take (i + 1) ms) (take (i + 1) xs) ≡ marked (take i ms) (take i xs)
  same_by [] e h = absurd (let k = ap length e in omega (arith, k, l))
  same_by (y ∷ ys) e h = unmarked_by y h

  pub marked_same : get_or ms i false ≡ false → marked (take (i + 1) ms) (take (i + 1) xs) ≡ marked (take i ms) (take i xs)
  marked_same h = same_by xs refl h

-- the place of an item whose mark is set
pub record IsMarkedAt {X : Type 0} (ms : List Bool) (xs : List X) (x : X) : Type 0 where
  pub number : ℕ
  pub here : slice_get xs number ≡ Some x
  pub is_marked : IsMarked ms number

later : {X : Type 0} (m : Bool) (ms : List Bool) (y x : X) (xs : List X) → IsMarkedAt ms xs x → IsMarkedAt (m ∷ ms) (y ∷ xs) x
later m ms y x xs h = record { number = suc h.number; here = h.here; is_marked = h.is_marked }

pub marked_at : {X : Type 0} (ms : List Bool) (xs : List X) (x : X) → Contains (marked ms xs) x → IsMarkedAt ms xs x
marked_at [] xs x h = absurd (has_none x h)
marked_at (m ∷ ms) [] x h = absurd (has_none x h)
marked_at (true ∷ ms) (y ∷ ys) x h =
    elim (has_cases y (marked ms ys) x h) [
      | inl e ↦ record { number = zero; here = ap Some e; is_marked = refl }
      | inr k ↦ later true ms y x ys (marked_at ms ys x k)
    ]
marked_at (false ∷ ms) (y ∷ ys) x h = later false ms y x ys (marked_at ms ys x h)

pub is_marked_item : {X : Type 0} (ms : List Bool) (xs : List X) (i : ℕ) (x : X) → slice_get xs i ≡ Some x → IsMarked ms i → Contains (marked ms xs) x
is_marked_item [] xs i x e h = absurd (false≢true h)
is_marked_item (m ∷ ms) [] i x e h = absurd (none-some x e)
is_marked_item (true ∷ ms) (y ∷ ys) zero x e h = subst (Contains (y ∷ marked ms ys)) (same_Some y x e) (has_head y (marked ms ys))
is_marked_item (true ∷ ms) (y ∷ ys) (suc i) x e h = has_tail y (marked ms ys) x (is_marked_item ms ys i x e h)
is_marked_item (false ∷ ms) (y ∷ ys) zero x e h = absurd (false≢true h)
is_marked_item (false ∷ ms) (y ∷ ys) (suc i) x e h = is_marked_item ms ys i x e h

marked_listed : {X : Type 0} (ms : List Bool) (xs : List X) (x : X) → Contains (marked ms xs) x → Contains xs x
marked_listed ms xs x h = let at = marked_at ms xs x h in item_at_place xs at.number x at.here

-- what is marked of strips in order is in order
pub marked_order : (ms : List Bool) (ss : List Strip) → IsInOrder ss → IsInOrder (marked ms ss)
marked_order [] ss o = tt
marked_order (m ∷ ms) [] o = tt
marked_order (true ∷ ms) (s ∷ ss) o = (λ t h. o.0 t (marked_listed ms ss t h), marked_order ms ss o.1)
marked_order (false ∷ ms) (s ∷ ss) o = marked_order ms ss o.1
