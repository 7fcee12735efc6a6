-- Lists of the pieces under numbers, in whatever order.
use Rattle.std.proofs.Common.{ℕ, zero, suc, ◌≡◌, ◌≢◌, ◌<◌, ◌+◌, ◌⊎◌, inl, inr, refl, sym, subst, ap, ◌∙◌, List, [], ◌∷◌, ◌++◌, Contains, AllPairs, Some, length, get_or, take, arith}
use Rattle.std.specs.List.{swap}
use Rattle.std.specs.List.Sorted.{IsPermutation}
use Rattle.std.proofs.lemmas.List.{take_more}
use Rattle.std.proofs.lemmas.List.Edits.{Swapped, swapped_from_swap}
use Rattle.std.proofs.lemmas.List.Sorted.{Contains-permutation, IsPermutation-keeps, IsPermutation-swap, IsPermutation-sym, length_permutation}
use Rattle.geo_rect.specs.declared.shapes.Point.{Point}
use Rattle.geo_rect.specs.declared.shapes.Rect.{Rect}
use Rattle.geo_rect.specs.Plane.{HasPoint}
use Rattle.plane_core.specs.declared.strips.Strip.{Strip}
use Rattle.plane_core.specs.Strips.{IsInOrder, Precedes}
use Rattle.tile_store.specs.declared.tiles.TileId.{TileId}
use Rattle.tile_store.specs.Store.{Store}
use Rattle.stitch_walk.specs.Neighbours.{IsDistinct}
use Rattle.stitch_walk.specs.Pieces.{piece_at, FillDomain, IsPiece}
use Rattle.stitch_walk.proofs.Pairs.{contains_at}
use Rattle.strip_merge.specs.StripsOf.{AreUnder, ArePieces, IsOneOf}
use Rattle.strip_merge.proofs.Placing.{precedes_or_back}

under_more : (s : Store) (ids : List TileId) (ps : List Strip) (id : TileId) (p : Strip) → AreUnder s ids ps → IsPiece s id p → AreUnder s (ids ++ id ∷ []) (ps ++ p ∷ [])
under_more s [] [] id p u e = (e, tt)
under_more s [] (q ∷ ps) id p u e = absurd u
under_more s (i ∷ ids) [] id p u e = absurd u
under_more s (i ∷ ids) (q ∷ ps) id p u e = (u.0, under_more s ids ps id p u.1 e)

-- the step of a loop that lists the pieces under numbers
pub under_step : (s : Store) (ids : List TileId) (k : ℕ) (d : TileId) (ps qs : List Strip) (p : Strip) → k < length ids → AreUnder s (take k ids) ps → IsPiece s (get_or ids k d) p → qs ≡ ps ++ p ∷ [] → AreUnder s (take (k + 1) ids) qs
under_step s ids k d ps qs p h u e is =
    let P : List TileId → Type 0 = λ l. AreUnder s l (ps ++ p ∷ []) in
    let Q : List Strip → Type 0 = λ l. AreUnder s (take (k + 1) ids) l in
    subst Q (sym is) (subst P (sym (take_more ids k d h)) (under_more s (take k ids) ps (get_or ids k d) p u e))

under_length : (s : Store) (ids : List TileId) (ps : List Strip) → AreUnder s ids ps → length ids ≡ length ps
under_length s [] [] u = refl
under_length s [] (p ∷ ps) u = absurd u
under_length s (i ∷ ids) [] u = absurd u
under_length s (i ∷ ids) (p ∷ ps) u = let e = under_length s ids ps u.1 in omega arith

under_at : (s : Store) (ids : List TileId) (ps : List Strip) (k : ℕ) (id : TileId) (p : Strip) → AreUnder s ids ps → k < length ps → IsPiece s (get_or ids k id) (get_or ps k p)
under_at s [] [] k id p u h = let h' : k < 0 = h in absurd (omega arith)
under_at s [] (q ∷ ps) k id p u h = absurd u
under_at s (i ∷ ids) [] k id p u h = absurd u
under_at s (i ∷ ids) (q ∷ ps) zero id p u h = u.0
under_at s (i ∷ ids) (q ∷ ps) (suc k) id p u h = under_at s ids ps k id p u.1 (omega arith)

one_of : (s : Store) (ids : List TileId) (ps : List Strip) (id : TileId) (p : Strip) → AreUnder s ids ps → Contains ps p → IsOneOf s ids p
one_of s ids ps id p u (k, h, e) =
    let P : Strip → Type 0 = λ q. IsPiece s (get_or ids k id) q in
    let same = under_length s ids ps u in
    record { by = get_or ids k id; is_listed = contains_at ids k id (omega arith); is_piece = subst P e (under_at s ids ps k id p u h) }

piece_listed : (s : Store) (ids : List TileId) (ps : List Strip) (id : TileId) (p : Strip) → AreUnder s ids ps → Contains ids id → IsPiece s id p → Contains ps p
piece_listed s ids ps id p u (k, h, e) is =
    let same = under_length s ids ps u in
    let within : k < length ps = omega arith in
    let there : IsPiece s (get_or ids k id) (get_or ps k p) = under_at s ids ps k id p u within in
    let P : TileId → Type 0 = λ i. IsPiece s i (get_or ps k p) in
    let here : piece_at s id ≡ Some (get_or ps k p) = subst P e there in
    (k, within, cc)

-- strips at two places of the list have no common point
abbrev pub AreOnce : List Strip → Type 0
AreOnce ps = (i j : ℕ) (d : Strip) (at : Point) → i < length ps → j < length ps → HasPoint (get_or ps i d).area at → HasPoint (get_or ps j d).area at → i ≡ j

one_place : (ids : List TileId) (i j : ℕ) (id : TileId) → IsDistinct ids → i < length ids → j < length ids → get_or ids i id ≡ get_or ids j id → i ≡ j
one_place ids i j id once hi hj e = by_order (order i j)
  where
    order : (a b : ℕ) → (a < b) ⊎ ((b < a) ⊎ (a ≡ b))
    order a b = grind arith

    by_order : (i < j) ⊎ ((j < i) ⊎ (i ≡ j)) → i ≡ j
    by_order (inl less) = absurd (once i j id less hj e)
    by_order (inr (inl more)) = absurd (once j i id more hi (sym e))
    by_order (inr (inr same)) = same

under_once : (s : Store) (domain : Rect) (ids : List TileId) (ps : List Strip) (id : TileId) → FillDomain s domain → IsDistinct ids → AreUnder s ids ps → AreOnce ps
under_once s domain ids ps id fill once u i j d at hi hj pi pj =
    let same = under_length s ids ps u in
    let a : IsPiece s (get_or ids i id) (get_or ps i d) = under_at s ids ps i id d u hi in
    let b : IsPiece s (get_or ids j id) (get_or ps j d) = under_at s ids ps j id d u hj in
    one_place ids i j id once (omega arith) (omega arith) (fill.apart (get_or ids i id) (get_or ids j id) (get_or ps i d) (get_or ps j d) at a b pi pj)

-- where the item at a place stood before those at a and b changed places
data StoodAt (a b i : ℕ) : ℕ → Type 0 where
  at_first : i ≡ a → StoodAt a b i b
  at_second : i ≡ b → StoodAt a b i a
  elsewhere : i ≢ a → i ≢ b → StoodAt a b i i

-- the place from which the item at place i of a list came when the items at a and b changed places
record CameFrom (f g : ℕ → Strip) (a b i : ℕ) : Type 0 where
  place : ℕ
  stood : StoodAt a b i place
  same : g i ≡ f place

came_from : (f g : ℕ → Strip) (a b i : ℕ) → Swapped f g a b → CameFrom f g a b i
came_from f g a b i s = by_place (which i a) (which i b)
  where
    which : (m n : ℕ) → (m ≡ n) ⊎ (m ≢ n)
    which m n = grind arith

    by_place : (i ≡ a) ⊎ (i ≢ a) → (i ≡ b) ⊎ (i ≢ b) → CameFrom f g a b i
    by_place (inl e) _ = record { place = b; stood = at_first e; same = ap g e ∙ s.0 }
    by_place (inr n) (inl e) = record { place = a; stood = at_second e; same = ap g e ∙ s.1 }
    by_place (inr n) (inr m) = record { place = i; stood = elsewhere n m; same = s.2 i n m }

came_from_one : (a b i j m n : ℕ) → StoodAt a b i m → StoodAt a b j n → m ≡ n → i ≡ j
came_from_one a b i j m n (at_first p) (at_first q) e = p ∙ sym q
came_from_one a b i j m n (at_first p) (at_second q) e = p ∙ (sym e ∙ sym q)
came_from_one a b i j m n (at_first p) (elsewhere q r) e = absurd (r (sym e))
came_from_one a b i j m n (at_second p) (at_first q) e = p ∙ (sym e ∙ sym q)
came_from_one a b i j m n (at_second p) (at_second q) e = p ∙ sym q
came_from_one a b i j m n (at_second p) (elsewhere q r) e = absurd (q (sym e))
came_from_one a b i j m n (elsewhere p q) (at_first r) e = absurd (q e)
came_from_one a b i j m n (elsewhere p q) (at_second r) e = absurd (p e)
came_from_one a b i j m n (elsewhere p q) (elsewhere r t) e = e

place_within : (a b i n m : ℕ) → a < n → b < n → i < n → StoodAt a b i m → m < n
place_within a b i n m ha hb hi (at_first p) = hb
place_within a b i n m ha hb hi (at_second p) = ha
place_within a b i n m ha hb hi (elsewhere p q) = hi

swapped_once : (ps : List Strip) (a b : ℕ) → a < length ps → b < length ps → AreOnce ps → AreOnce (swap ps a b)
swapped_once ps a b ha hb once i j d at hi hj pi pj =
    let f : ℕ → Strip = λ k. get_or ps k d in
    let g : ℕ → Strip = λ k. get_or (swap ps a b) k d in
    let P : Strip → Type 0 = λ q. HasPoint q.area at in
    let s : Swapped f g a b = swapped_from_swap ps (swap ps a b) a b d ha hb refl in
    let same : length (swap ps a b) ≡ length ps = length_permutation ps (swap ps a b) (IsPermutation-swap ps (swap ps a b) a b ha hb refl) in
    let m : CameFrom f g a b i = came_from f g a b i s in
    let n : CameFrom f g a b j = came_from f g a b j s in
    let hm : m.place < length ps = place_within a b i (length ps) m.place ha hb (omega arith) m.stood in
    let hn : n.place < length ps = place_within a b j (length ps) n.place ha hb (omega arith) n.stood in
    came_from_one a b i j m.place n.place m.stood n.stood (once m.place n.place d at hm hn (subst P m.same pi) (subst P n.same pj))

-- no strip of the list precedes one before it
abbrev pub NoneBack : List Strip → Type 0
NoneBack ps = AllPairs (λ s t. ¬ Precedes t s) ps

once_in_order : (ps : List Strip) → NoneBack ps → AreOnce ps → IsInOrder ps
once_in_order [] back once = tt
once_in_order (p ∷ ps) back once = (first_before, once_in_order ps later_back later_once)
  where
    apart : (t : Strip) (k : ℕ) → k < length ps → get_or ps k t ≡ t → (at : Point) → HasPoint p.area at → ¬ HasPoint t.area at
    apart t k h e at hp ht =
        let P : Strip → Type 0 = λ q. HasPoint q.area at in
        let n : zero ≡ suc k = once zero (suc k) t at (omega arith) (omega arith) hp (subst P (sym e) ht) in
        omega arith

    first_before : (t : Strip) → Contains ps t → Precedes p t
    first_before t (k, h, e) =
        let P : Strip → Type 0 = λ q. ¬ Precedes q p in
        precedes_or_back p t (apart t k h e) (subst P e (back zero (suc k) t (omega arith) (omega arith)))

    later_back : NoneBack ps
    later_back i j d less within = back (suc i) (suc j) d (omega arith) (omega arith)

    later_once : AreOnce ps
    later_once i j d at hi hj pi pj = let n : suc i ≡ suc j = once (suc i) (suc j) d at (omega arith) (omega arith) pi pj in omega arith

-- the pieces under numbers that stand once, sorted, are in order
sorted_in_order : (ps qs : List Strip) → AreOnce ps → IsPermutation ps qs → NoneBack qs → IsInOrder qs
sorted_in_order ps qs once same back = once_in_order qs back (IsPermutation-keeps ps AreOnce once swapped_once qs same)

-- the pieces under numbers that stand once, sorted
pub sorted_pieces : (s : Store) (domain : Rect) (ids : List TileId) (ps qs : List Strip) → FillDomain s domain → IsDistinct ids → AreUnder s ids ps → IsPermutation ps qs → NoneBack qs → ArePieces s ids qs
sorted_pieces s domain ids ps qs fill once u same back = record {
  listed = λ p h. one_of s ids ps (record { 0 = 0 }) p u (Contains-permutation qs ps p (IsPermutation-sym ps qs same) h);
  complete = λ id p h is. Contains-permutation ps qs p same (piece_listed s ids ps id p u h is);
  in_order = sorted_in_order ps qs (under_once s domain ids ps (record { 0 = 0 }) fill once u) same back;
}
