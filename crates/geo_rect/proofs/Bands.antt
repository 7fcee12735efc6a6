-- The points one step from a rectangle: four bands, of which a rectangle apart from it meets one at most.
use Rattle.std.proofs.Common.{ℕ, zero, suc, ℤ, pos, ◌≡◌, ◌≤◌, ◌+ℤ◌, ◌-ℤ◌, ◌≤ℤ◌, ◌<ℤ◌, Some, None, IfSome, IfNone, subst, arith}
use Rattle.std.specs.declared.option.Option.{Option}
use Rattle.std.proofs.lemmas.Int.{ints, by_lt_z}
use Rattle.geo_rect.specs.declared.shapes.Interval.{Interval}
use Rattle.geo_rect.specs.declared.shapes.Point.{Point}
use Rattle.geo_rect.specs.declared.shapes.Rect.{Rect}
use Rattle.geo_rect.specs.Axis.{HasNumber, just}
use Rattle.geo_rect.specs.Line.{between}
use Rattle.geo_rect.specs.Plane.{HasPoint, columns, rows, IsMeet, ShareNoPoint}
use Rattle.geo_rect.specs.Distance.{apart}
use Rattle.geo_rect.specs.Edges.{IsBeside, IsEdge, HasNoEdge, right_band, left_band, upper_band, lower_band}
use Rattle.geo_rect.proofs.Parts.{low_in, high_in}
use Rattle.geo_rect.proofs.Steps.{between-self, between-zero}

-- the side of t on which q lies, one step from it
data Side (t : Rect) (q : Point) : Type 0 where
  on_right : q.x ≡ t.x1 +ℤ pos 1 → HasNumber (rows t) q.y → Side t q
  on_left : q.x ≡ t.x0 -ℤ pos 1 → HasNumber (rows t) q.y → Side t q
  above : q.y ≡ t.y1 +ℤ pos 1 → HasNumber (columns t) q.x → Side t q
  below : q.y ≡ t.y0 -ℤ pos 1 → HasNumber (columns t) q.x → Side t q

-- v is in i, or next after it, or next before it
data Next (i : Interval) (v : ℤ) : Type 0 where
  within : HasNumber i v → Next i v
  next_after : v ≡ i.high +ℤ pos 1 → Next i v
  next_before : v ≡ i.low -ℤ pos 1 → Next i v

find_next : (i : Interval) (u v : ℤ) → HasNumber i u → between u v ≤ 1 → Next i v
find_next i u v h e =
    by_lt_z v i.low
    (λ (k : v <ℤ i.low). next_before (omega (arith, ints)))
    (λ (k : i.low ≤ℤ v). by_lt_z i.high v (λ (l : i.high <ℤ v). next_after (omega (arith, ints))) (λ (l : v ≤ℤ i.high). within (record { from = k; to = l })))

side_up : (t : Rect) (q : Point) → (HasPoint t q → ⊥) → HasNumber (columns t) q.x → Next (rows t) q.y → Side t q
side_up t q apart_from h (within k) = absurd (apart_from (record { across = h; up = k }))
side_up t q apart_from h (next_after e) = above e h
side_up t q apart_from h (next_before e) = below e h

side_across : (t : Rect) (q : Point) → (HasPoint t q → ⊥) → HasNumber (rows t) q.y → Next (columns t) q.x → Side t q
side_across t q apart_from h (within k) = absurd (apart_from (record { across = k; up = h }))
side_across t q apart_from h (next_after e) = on_right e h
side_across t q apart_from h (next_before e) = on_left e h

side_by : (t : Rect) (p q : Point) (k : ℕ) → (HasPoint t q → ⊥) → HasPoint t p → apart p q ≡ 1 → between p.x q.x ≡ k → Side t q
side_by t p q zero apart_from h e z =
    side_up t q apart_from (subst (λ (v : ℤ). HasNumber (columns t) v) (between-zero p.x q.x z) h.across) (find_next (rows t) p.y q.y h.up (omega arith))
side_by t p q (suc k) apart_from h e z =
    side_across t q apart_from (subst (λ (v : ℤ). HasNumber (rows t) v) (between-zero p.y q.y (omega arith)) h.up) (find_next (columns t) p.x q.x h.across (omega arith))

find_side : (t : Rect) (q : Point) → (HasPoint t q → ⊥) → IsBeside t q → Side t q
find_side t q apart_from b = side_by t b.point q (between b.point.x q.x) apart_from b.here b.step refl
  where
    refl : between b.point.x q.x ≡ between b.point.x q.x
    refl = omega arith

after_is_one : (x v : ℤ) → v ≡ x +ℤ pos 1 → between x v ≡ 1
after_is_one x v e = omega (arith, ints)

before_is_one : (x v : ℤ) → v ≡ x -ℤ pos 1 → between x v ≡ 1
before_is_one x v e = omega (arith, ints)

side_beside : (t : Rect) (q : Point) → Side t q → IsBeside t q
side_beside t q (on_right e h) = record {
  point = record { x = t.x1; y = q.y };
  here = record { across = high_in (columns t); up = h };
  step = omega (arith, after_is_one t.x1 q.x e, between-self q.y);
}
side_beside t q (on_left e h) = record {
  point = record { x = t.x0; y = q.y };
  here = record { across = low_in (columns t); up = h };
  step = omega (arith, before_is_one t.x0 q.x e, between-self q.y);
}
side_beside t q (above e h) = record {
  point = record { x = q.x; y = t.y1 };
  here = record { across = h; up = high_in (rows t) };
  step = omega (arith, after_is_one t.y1 q.y e, between-self q.x);
}
side_beside t q (below e h) = record {
  point = record { x = q.x; y = t.y0 };
  here = record { across = h; up = low_in (rows t) };
  step = omega (arith, before_is_one t.y0 q.y e, between-self q.x);
}

just_is : (w v : ℤ) → HasNumber (just w) v → v ≡ w
just_is w v h = omega (arith, ints)

has_just : (w v : ℤ) → v ≡ w → HasNumber (just w) v
has_just w v e = record { from = omega (arith, ints); to = omega (arith, ints) }

-- the first point of a rectangle
corner : Rect → Point
corner r = record { x = r.x0; y = r.y0 }

has_corner : (r : Rect) → HasPoint r (corner r)
unfolding corner
has_corner r = record { across = low_in (columns r); up = low_in (rows r) }

module _ (t u : Rect) (apart_from : ShareNoPoint t u) where
  -- u holds no two points of which t has the column of the one and the row of the other
  crossed : (p q : Point) → HasPoint u p → HasPoint u q → HasNumber (columns t) p.x → HasNumber (rows t) q.y → ⊥
  crossed p q h k i j = apart_from (record { x = p.x; y = q.y }) (record { across = i; up = j }) (record { across = h.across; up = k.up })

  -- nor one right and one left of it
  facing : (p q : Point) → HasPoint u p → HasPoint u q → p.x ≡ t.x1 +ℤ pos 1 → q.x ≡ t.x0 -ℤ pos 1 → HasNumber (rows t) p.y → ⊥
  facing p q h k e f j =
      let o = t.x_ordered in
      let ha = h.across in
      let ka = k.across in
      apart_from (record { x = t.x0; y = p.y }) (record { across = low_in (columns t); up = j }) (record { across = record { from = omega (arith, ints); to = omega (arith, ints) }; up = h.up })

  -- nor one above and one below it
  stacked : (p q : Point) → HasPoint u p → HasPoint u q → p.y ≡ t.y1 +ℤ pos 1 → q.y ≡ t.y0 -ℤ pos 1 → HasNumber (columns t) p.x → ⊥
  stacked p q h k e f j =
      let o = t.y_ordered in
      let hu = h.up in
      let ku = k.up in
      apart_from (record { x = p.x; y = t.y0 }) (record { across = j; up = low_in (rows t) }) (record { across = h.across; up = record { from = omega (arith, ints); to = omega (arith, ints) } })

  side_of : (q : Point) → HasPoint u q → IsBeside t q → Side t q
  side_of q h b = find_side t q (λ i. apart_from q i h) b

  right_all : (p q : Point) → HasPoint u p → HasPoint u q → HasPoint (right_band t) p → Side t q → HasPoint (right_band t) q
  right_all p q h k b (on_right e i) = record { across = has_just (t.x1 +ℤ pos 1) q.x e; up = i }
  right_all p q h k b (on_left e i) = absurd (facing p q h k (just_is (t.x1 +ℤ pos 1) p.x b.across) e b.up)
  right_all p q h k b (above e i) = absurd (crossed q p k h i b.up)
  right_all p q h k b (below e i) = absurd (crossed q p k h i b.up)

  left_all : (p q : Point) → HasPoint u p → HasPoint u q → HasPoint (left_band t) p → Side t q → HasPoint (left_band t) q
  left_all p q h k b (on_right e i) = absurd (facing q p k h e (just_is (t.x0 -ℤ pos 1) p.x b.across) i)
  left_all p q h k b (on_left e i) = record { across = has_just (t.x0 -ℤ pos 1) q.x e; up = i }
  left_all p q h k b (above e i) = absurd (crossed q p k h i b.up)
  left_all p q h k b (below e i) = absurd (crossed q p k h i b.up)

  upper_all : (p q : Point) → HasPoint u p → HasPoint u q → HasPoint (upper_band t) p → Side t q → HasPoint (upper_band t) q
  upper_all p q h k b (on_right e i) = absurd (crossed p q h k b.across i)
  upper_all p q h k b (on_left e i) = absurd (crossed p q h k b.across i)
  upper_all p q h k b (above e i) = record { across = i; up = has_just (t.y1 +ℤ pos 1) q.y e }
  upper_all p q h k b (below e i) = absurd (stacked p q h k (just_is (t.y1 +ℤ pos 1) p.y b.up) e b.across)

  lower_all : (p q : Point) → HasPoint u p → HasPoint u q → HasPoint (lower_band t) p → Side t q → HasPoint (lower_band t) q
  lower_all p q h k b (on_right e i) = absurd (crossed p q h k b.across i)
  lower_all p q h k b (on_left e i) = absurd (crossed p q h k b.across i)
  lower_all p q h k b (above e i) = absurd (stacked q p k h e (just_is (t.y0 -ℤ pos 1) p.y b.up) i)
  lower_all p q h k b (below e i) = record { across = i; up = has_just (t.y0 -ℤ pos 1) q.y e }

  edge_by : (b r : Rect) → ((q : Point) → HasPoint b q → Side t q) → ((p q : Point) → HasPoint u p → HasPoint u q → HasPoint b p → Side t q → HasPoint b q) → IsMeet b u r → IsEdge t u r
  edge_by b r f g m =
      let c = has_corner r in
      record {
        in_u = m.second;
        beside_t = λ q h. side_beside t q (f q (m.first q h));
        all = λ q h k. m.all q (g (corner r) q (m.second (corner r) c) h (m.first (corner r) c) (side_of q h k)) h;
      }

  in_right : (q : Point) → HasPoint (right_band t) q → Side t q
  in_right q h = on_right (just_is (t.x1 +ℤ pos 1) q.x h.across) h.up

  in_left : (q : Point) → HasPoint (left_band t) q → Side t q
  in_left q h = on_left (just_is (t.x0 -ℤ pos 1) q.x h.across) h.up

  in_upper : (q : Point) → HasPoint (upper_band t) q → Side t q
  in_upper q h = above (just_is (t.y1 +ℤ pos 1) q.y h.up) h.across

  in_lower : (q : Point) → HasPoint (lower_band t) q → Side t q
  in_lower q h = below (just_is (t.y0 -ℤ pos 1) q.y h.up) h.across

  pub edge_right : (b r : Rect) → b ≡ right_band t → IsMeet b u r → IsEdge t u r
  edge_right b r e m = edge_by (right_band t) r in_right right_all (subst (λ (z : Rect). IsMeet z u r) e m)

  pub edge_left : (b r : Rect) → b ≡ left_band t → IsMeet b u r → IsEdge t u r
  edge_left b r e m = edge_by (left_band t) r in_left left_all (subst (λ (z : Rect). IsMeet z u r) e m)

  pub edge_upper : (b r : Rect) → b ≡ upper_band t → IsMeet b u r → IsEdge t u r
  edge_upper b r e m = edge_by (upper_band t) r in_upper upper_all (subst (λ (z : Rect). IsMeet z u r) e m)

  pub edge_lower : (b r : Rect) → b ≡ lower_band t → IsMeet b u r → IsEdge t u r
  edge_lower b r e m = edge_by (lower_band t) r in_lower lower_all (subst (λ (z : Rect). IsMeet z u r) e m)

  on_none : ShareNoPoint (right_band t) u → ShareNoPoint (left_band t) u → ShareNoPoint (upper_band t) u → ShareNoPoint (lower_band t) u → (q : Point) → HasPoint u q → Side t q → ⊥
  on_none f g h k q i (on_right e j) = f q (record { across = has_just (t.x1 +ℤ pos 1) q.x e; up = j }) i
  on_none f g h k q i (on_left e j) = g q (record { across = has_just (t.x0 -ℤ pos 1) q.x e; up = j }) i
  on_none f g h k q i (above e j) = h q (record { across = j; up = has_just (t.y1 +ℤ pos 1) q.y e }) i
  on_none f g h k q i (below e j) = k q (record { across = j; up = has_just (t.y0 -ℤ pos 1) q.y e }) i

  pub edge_lower_if : (b : Rect) (o : Option Rect) → b ≡ lower_band t → IfSome o (λ r. IsMeet b u r) → IfSome o (λ r. IsEdge t u r)
  edge_lower_if b None e m = m
  edge_lower_if b (Some r) e m = edge_lower b r e m

  pub edge_none_if : (a b c d : Rect) (o : Option Rect) → a ≡ right_band t → b ≡ left_band t → c ≡ upper_band t → d ≡ lower_band t → ShareNoPoint a u → ShareNoPoint b u → ShareNoPoint c u → IfNone o (ShareNoPoint d u) → IfNone o (HasNoEdge t u)
  edge_none_if a b c d (Some r) ea eb ec ed f g h k = k
  edge_none_if a b c d None ea eb ec ed f g h k =
      let P : Rect → Type 0 = λ z. ShareNoPoint z u in
      λ q i j. on_none (subst P ea f) (subst P eb g) (subst P ec h) (subst P ed k) q i (side_of q i j)
