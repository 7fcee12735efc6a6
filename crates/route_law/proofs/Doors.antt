-- Two rectangles have a rectangle of common points, or none; and likewise an edge.
use Rattle.std.proofs.Common.{ℤ, ◌≤ℤ◌, ◌⊎◌, inl, inr, refl, None, arith}
use Rattle.std.proofs.lemmas.Int.{ints, by_lt_z}
use Rattle.geo_rect.specs.declared.shapes.Interval.{Interval}
use Rattle.geo_rect.specs.declared.shapes.Point.{Point}
use Rattle.geo_rect.specs.declared.shapes.Rect.{Rect}
use Rattle.geo_rect.specs.Axis.{IsOverlap, ShareNoNumber}
use Rattle.geo_rect.specs.Edges.{IsBeside, IsEdge, HasNoEdge, right_band, left_band, upper_band, lower_band}
use Rattle.geo_rect.specs.Plane.{columns, rows, rect_of, HasPoint, IsMeet, ShareNoPoint}
use Rattle.geo_rect.proofs.Bands.{edge_right, edge_left, edge_upper, edge_lower, edge_none_if}

-- m is the greater of a and b
record IsGreater (a b m : ℤ) : Type 0 where
  first : a ≤ℤ m
  second : b ≤ℤ m
  least : (v : ℤ) → a ≤ℤ v → b ≤ℤ v → m ≤ℤ v

-- m is the lesser of a and b
record IsLesser (a b m : ℤ) : Type 0 where
  first : m ≤ℤ a
  second : m ≤ℤ b
  greatest : (v : ℤ) → v ≤ℤ a → v ≤ℤ b → v ≤ℤ m

find_greater : (a b : ℤ) → (m : ℤ) × IsGreater a b m
find_greater a b =
    by_lt_z a b (λ h. (b, record { first = omega (arith, ints); second = omega (arith, ints); least = λ v k l. l }))
    (λ h. (a, record { first = omega (arith, ints); second = h; least = λ v k l. k }))

find_lesser : (a b : ℤ) → (m : ℤ) × IsLesser a b m
find_lesser a b =
    by_lt_z a b (λ h. (a, record { first = omega (arith, ints); second = omega (arith, ints); greatest = λ v k l. k }))
    (λ h. (b, record { first = h; second = omega (arith, ints); greatest = λ v k l. l }))

overlap_of : (i j : Interval) (l h : ℤ) (o : l ≤ℤ h) → IsGreater i.low j.low l → IsLesser i.high j.high h → IsOverlap i j (record { low = l; high = h; ordered = o })
overlap_of i j l h o g k = record {
  first = λ v n. record { from = omega (arith, ints); to = omega (arith, ints) };
  second = λ v n. record { from = omega (arith, ints); to = omega (arith, ints) };
  all = λ v n m. record { from = g.least v n.from m.from; to = k.greatest v n.to m.to };
}

overlap_cases : (i j : Interval) → ((r : Interval) × IsOverlap i j r) ⊎ ShareNoNumber i j
overlap_cases i j =
    let l = find_greater i.low j.low in
    let h = find_lesser i.high j.high in
    by_lt_z h.0 l.0
    (λ k. inr (λ v n m. let a = l.1.least v n.from m.from in let b = h.1.greatest v n.to m.to in absurd (omega (arith, ints))))
    (λ o. inl (record { low = l.0; high = h.0; ordered = o }, overlap_of i j l.0 h.0 o l.1 h.1))

meet_by : (a b : Rect) → ((r : Interval) × IsOverlap (columns a) (columns b) r) ⊎ ShareNoNumber (columns a) (columns b) → ((r : Interval) × IsOverlap (rows a) (rows b) r) ⊎ ShareNoNumber (rows a) (rows b) → ((r : Rect) × IsMeet a b r) ⊎ ShareNoPoint a b
meet_by a b (inr n) up = inr (λ p h k. n p.x h.across k.across)
meet_by a b (inl x) (inr n) = inr (λ p h k. n p.y h.up k.up)
meet_by a b (inl x) (inl y) =
    inl (
      rect_of x.0 y.0,
      record {
        first = λ p h. record { across = x.1.first p.x h.across; up = y.1.first p.y h.up };
        second = λ p h. record { across = x.1.second p.x h.across; up = y.1.second p.y h.up };
        all = λ p h k. record { across = x.1.all p.x h.across k.across; up = y.1.all p.y h.up k.up };
      },
    )

pub meet_cases : (a b : Rect) → ((r : Rect) × IsMeet a b r) ⊎ ShareNoPoint a b
meet_cases a b = meet_by a b (overlap_cases (columns a) (columns b)) (overlap_cases (rows a) (rows b))

found_meet : (a b : Rect) (p : Point) → HasPoint a p → HasPoint b p → ((r : Rect) × IsMeet a b r) ⊎ ShareNoPoint a b → (r : Rect) × IsMeet a b r
found_meet a b p h k (inl m) = m
found_meet a b p h k (inr n) = absurd (n p h k)

-- rectangles with a common point have a rectangle of common points
pub find_meet : (a b : Rect) (p : Point) → HasPoint a p → HasPoint b p → (r : Rect) × IsMeet a b r
find_meet a b p h k = found_meet a b p h k (meet_cases a b)

module _ (t u : Rect) (separate : ShareNoPoint t u) where
  edge_by : ((r : Rect) × IsMeet (right_band t) u r) ⊎ ShareNoPoint (right_band t) u → ((r : Rect) × IsMeet (left_band t) u r) ⊎ ShareNoPoint (left_band t) u → ((r : Rect) × IsMeet (upper_band t) u r) ⊎ ShareNoPoint (upper_band t) u → ((r : Rect) × IsMeet (lower_band t) u r) ⊎ ShareNoPoint (lower_band t) u → ((r : Rect) × IsEdge t u r) ⊎ HasNoEdge t u
  edge_by (inl m) b c d = inl (m.0, edge_right t u separate (right_band t) m.0 refl m.1)
  edge_by (inr a) (inl m) c d = inl (m.0, edge_left t u separate (left_band t) m.0 refl m.1)
  edge_by (inr a) (inr b) (inl m) d = inl (m.0, edge_upper t u separate (upper_band t) m.0 refl m.1)
  edge_by (inr a) (inr b) (inr c) (inl m) = inl (m.0, edge_lower t u separate (lower_band t) m.0 refl m.1)
  edge_by (inr a) (inr b) (inr c) (inr d) =
      inr (edge_none_if t u separate (right_band t) (left_band t) (upper_band t) (lower_band t) None refl refl refl refl a b c d)

  pub edge_cases : ((r : Rect) × IsEdge t u r) ⊎ HasNoEdge t u
  edge_cases = edge_by (meet_cases (right_band t) u) (meet_cases (left_band t) u) (meet_cases (upper_band t) u) (meet_cases (lower_band t) u)

  found_edge : (q : Point) → HasPoint u q → IsBeside t q → ((r : Rect) × IsEdge t u r) ⊎ HasNoEdge t u → (r : Rect) × IsEdge t u r
  found_edge q h b (inl e) = e
  found_edge q h b (inr n) = absurd (n q h b)

  -- rectangles apart, of which one has a point one step from the other, have an edge
  pub find_edge : (q : Point) → HasPoint u q → IsBeside t q → (r : Rect) × IsEdge t u r
  find_edge q h b = found_edge q h b edge_cases
