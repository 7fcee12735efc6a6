-- Joining strips of the same columns and label.
use Rattle.std.proofs.Common.{ℤ, pos, ◌+ℤ◌, ◌≡◌, refl, sym, subst, List, [], ◌∷◌, ◌++◌, ◌⊎◌, inl, inr, Contains, arith}
use Rattle.std.proofs.lemmas.Int.{ints, clamps, by_lt_z}
use Rattle.std.proofs.lemmas.List.Elements.{Contains-append_left, Contains-append_right, Contains-append_cases}
use Rattle.geo_rect.specs.declared.ids.Label.{Label}
use Rattle.geo_rect.specs.declared.shapes.Interval.{Interval}
use Rattle.geo_rect.specs.declared.shapes.Point.{Point}
use Rattle.geo_rect.specs.declared.shapes.Rect.{Rect}
use Rattle.geo_rect.specs.Axis.{HasNumber, LiesWithin}
use Rattle.geo_rect.specs.Plane.{rows, HasPoint}
use Rattle.plane_core.specs.declared.strips.Strip.{Strip}
use Rattle.plane_core.proofs.Alike.{IsAlike, alike_back, alike_on, run_alike}
use Rattle.plane_core.proofs.Choices.{has_one}
use Rattle.plane_core.proofs.Members.{has_head, has_none}
use Rattle.flat_plane.specs.Draft.{IsAbsorbed, IsHull, IsJoinOf, IsPartOf, IsRunInEachRow, IsUnion, Joins, Touch}

pub touch_back : (i j : Interval) → Touch i j → Touch j i
touch_back i j t = record { first_reaches = t.second_reaches; second_reaches = t.first_reaches }

pub joins_alike : (s t : Strip) → Joins s t → IsAlike s t
joins_alike s t j = record { same_label = j.same_label; same_columns = j.same_columns }

pub joins_from_alike : (s t : Strip) → IsAlike s t → Touch (rows s.area) (rows t.area) → Joins s t
joins_from_alike s t a r = record { same_label = a.same_label; same_columns = a.same_columns; rows_touch = r }

pub joins_back : (s t : Strip) → Joins s t → Joins t s
joins_back s t j = joins_from_alike t s (alike_back s t (joins_alike s t j)) (touch_back (rows s.area) (rows t.area) j.rows_touch)

pub part_alike : (s t : Strip) → IsPartOf s t → IsAlike s t
part_alike s t p = record { same_label = p.same_label; same_columns = p.same_columns }

pub part_from_alike : (s t : Strip) → IsAlike s t → LiesWithin (rows s.area) (rows t.area) → IsPartOf s t
part_from_alike s t a w = record { same_label = a.same_label; same_columns = a.same_columns; rows_within = w }

within_itself : (i : Interval) → LiesWithin i i
within_itself i = record { from = omega (arith, ints); to = omega (arith, ints) }

within_on : (i j k : Interval) → LiesWithin i j → LiesWithin j k → LiesWithin i k
within_on i j k p q =
    let a = p.from in let b = q.from in let d = p.to in let e = q.to in
    record { from = omega (arith, ints); to = omega (arith, ints) }

pub part_of_itself : (s : Strip) → IsPartOf s s
part_of_itself s = record { same_label = refl; same_columns = record { left = refl; right = refl }; rows_within = within_itself (rows s.area) }

pub part_on : (s t u : Strip) → IsPartOf s t → IsPartOf t u → IsPartOf s u
part_on s t u p q =
    part_from_alike s u (alike_on s t u (part_alike s t p) (part_alike t u q))
    (within_on (rows s.area) (rows t.area) (rows u.area) p.rows_within q.rows_within)

pub part_point : (s t : Strip) (p : Point) → IsPartOf s t → HasPoint s.area p → HasPoint t.area p
part_point s t p part h =
    let l = part.same_columns.left in let r = part.same_columns.right in
    let w1 = part.rows_within.from in let w2 = part.rows_within.to in
    let a1 = h.across.from in let a2 = h.across.to in let u1 = h.up.from in let u2 = h.up.to in
    record {
      across = record { from = omega (arith, ints); to = omega (arith, ints) };
      up = record { from = omega (arith, ints); to = omega (arith, ints) };
    }

hull_first : (i j h : Interval) → IsHull i j h → LiesWithin i h
hull_first i j h is = let l = is.low in let g = is.high in record { from = omega (arith, ints, clamps); to = omega (arith, ints, clamps) }

hull_second : (i j h : Interval) → IsHull i j h → LiesWithin j h
hull_second i j h is = let l = is.low in let g = is.high in record { from = omega (arith, ints, clamps); to = omega (arith, ints, clamps) }

-- a number of the hull of two that touch is a number of one of them
hull_number : (i j h : Interval) (v : ℤ) → IsHull i j h → Touch i j → HasNumber h v → HasNumber i v ⊎ HasNumber j v
hull_number i j h v is t n =
    let l = is.low in let g = is.high in let t1 = t.first_reaches in let t2 = t.second_reaches in
    let n1 = n.from in let n2 = n.to in
    by_lt_z v i.low
    (λ below. inr (record { from = omega (arith, ints, clamps); to = omega (arith, ints, clamps) }))
    (λ from. by_lt_z i.high v
    (λ above. inr (record { from = omega (arith, ints, clamps); to = omega (arith, ints, clamps) }))
    (λ to. inl (record { from = from; to = to })))

-- what touches the hull of two that touch touches one of them
hull_touch : (i j h k : Interval) → IsHull i j h → Touch i j → Touch k h → Touch k i ⊎ Touch k j
hull_touch i j h k is t n =
    let l = is.low in let g = is.high in let t1 = t.first_reaches in let t2 = t.second_reaches in
    let n1 = n.first_reaches in let n2 = n.second_reaches in let oi = i.ordered in let oj = j.ordered in let ok = k.ordered in
    by_lt_z (k.high +ℤ pos 1) i.low
    (λ below. inr (record { first_reaches = omega (arith, ints, clamps); second_reaches = omega (arith, ints, clamps) }))
    (λ from. by_lt_z (i.high +ℤ pos 1) k.low
    (λ above. inr (record { first_reaches = omega (arith, ints, clamps); second_reaches = omega (arith, ints, clamps) }))
    (λ to. inl (record { first_reaches = from; second_reaches = to })))

union_second : (s t u : Strip) → IsUnion s t u → IsPartOf t u
union_second s t u is =
    record { same_label = is.same_label; same_columns = is.same_columns; rows_within = hull_second (rows s.area) (rows t.area) (rows u.area) is.rows_joined }

union_first : (s t u : Strip) → Joins s t → IsUnion s t u → IsPartOf s u
union_first s t u j is =
    part_from_alike s u (alike_on s t u (joins_alike s t j) (part_alike t u (union_second s t u is)))
    (hull_first (rows s.area) (rows t.area) (rows u.area) is.rows_joined)

union_runs : (domain : Rect) (f : Point → Label) (s t u : Strip) → Joins s t → IsUnion s t u → IsRunInEachRow domain f s → IsRunInEachRow domain f t → IsRunInEachRow domain f u
union_runs domain f s t u j is rs rt y hy =
    elim (hull_number (rows s.area) (rows t.area) (rows u.area) y is.rows_joined j.rows_touch hy) [
      | inl h ↦ run_alike domain f s u y (part_alike s u (union_first s t u j is)) (rs y h)
      | inr h ↦ run_alike domain f t u y (part_alike t u (union_second s t u is)) (rt y h)
    ]

union_joins : (s t u r : Strip) → Joins s t → IsUnion s t u → Joins r u → Joins r s ⊎ Joins r t
union_joins s t u r j is n =
    let tu : IsAlike t u = part_alike t u (union_second s t u is) in
    let su : IsAlike s u = part_alike s u (union_first s t u j is) in
    elim (hull_touch (rows s.area) (rows t.area) (rows u.area) (rows r.area) is.rows_joined j.rows_touch n.rows_touch) [
      | inl h ↦ inl (joins_from_alike r s (alike_on r u s (joins_alike r u n) (alike_back s u su)) h)
      | inr h ↦ inr (joins_from_alike r t (alike_on r u t (joins_alike r u n) (alike_back t u tu)) h)
    ]

pub join_none : (piece : Strip) → IsJoinOf [] piece piece
join_none piece = record {
  has_piece = part_of_itself piece;
  has_strips = λ s h j. absurd (has_none s h);
  runs = λ domain f all r. r;
}

-- what of the strips so far can be joined with the union lies in it
kept_strip : (ss : List Strip) (piece whole s u r : Strip) → (Contains ss r → Joins r s → r ≡ s) → IsJoinOf ss piece whole → Joins s whole → IsUnion s whole u → Contains ss r → Joins r s ⊎ Joins r whole → IsPartOf r u
kept_strip ss piece whole s u r apart is j un h (inl k) =
    let P : Strip → Type 0 = λ v. IsPartOf v u in subst P (sym (apart h k)) (union_first s whole u j un)
kept_strip ss piece whole s u r apart is j un h (inr k) = part_on r whole u (is.has_strips r h k) (union_second s whole u un)

join_taken : (ss : List Strip) (piece whole s u : Strip) → ((r : Strip) → Contains ss r → Joins r s → r ≡ s) → IsJoinOf ss piece whole → Joins s whole → IsUnion s whole u → IsJoinOf (ss ++ s ∷ []) piece u
join_taken ss piece whole s u apart is j un = record {
  has_piece = part_on piece whole u is.has_piece (union_second s whole u un);
  has_strips = λ r h n. elim (Contains-append_cases ss (s ∷ []) r h) [
    | inl k ↦ kept_strip ss piece whole s u r (apart r) is j un k (union_joins s whole u r j un n)
    | inr k ↦ (let P : Strip → Type 0 = λ v. IsPartOf v u in subst P (has_one s r k) (union_first s whole u j un))
  ];
  runs = λ domain f all r.
      union_runs domain f s whole u j un
      (all s (Contains-append_right ss (s ∷ []) s (has_head s [])))
      (is.runs domain f (λ t h. all t (Contains-append_left ss (s ∷ []) t h)) r);
}

join_left : (ss : List Strip) (piece whole s : Strip) → IsJoinOf ss piece whole → ¬ Joins s whole → IsJoinOf (ss ++ s ∷ []) piece whole
join_left ss piece whole s is n = record {
  has_piece = is.has_piece;
  has_strips = λ r h j. elim (Contains-append_cases ss (s ∷ []) r h) [
    | inl k ↦ is.has_strips r k j
    | inr k ↦ absurd (n (let P : Strip → Type 0 = λ v. Joins v whole in subst P (sym (has_one s r k)) j))
  ];
  runs = λ domain f all r. is.runs domain f (λ t h. all t (Contains-append_left ss (s ∷ []) t h)) r;
}

-- one more strip is joined with the piece, or is left
pub join_more : (ss : List Strip) (piece whole s new : Strip) → ((r : Strip) → Contains ss r → Joins r s → r ≡ s) → IsJoinOf ss piece whole → IsAbsorbed s whole new → IsJoinOf (ss ++ s ∷ []) piece new
join_more ss piece whole s new apart is (inl p) = join_taken ss piece whole s new apart is p.0 p.1
join_more ss piece whole s new apart is (inr p) =
    let P : Strip → Type 0 = λ v. IsJoinOf (ss ++ s ∷ []) piece v in subst P (sym p.1) (join_left ss piece whole s is p.0)
