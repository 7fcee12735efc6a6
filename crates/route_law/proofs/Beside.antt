-- Rectangles apart have an edge just where the one stands beside the other, on some side.
use Rattle.std.proofs.Common.{ℤ, pos, ◌≡◌, ◌≢◌, ◌+◌, ◌+ℤ◌, ◌-ℤ◌, ◌⊎◌, inl, inr, refl, subst, None, arith}
use Rattle.std.proofs.lemmas.Int.{ints}
use Rattle.geo_rect.specs.declared.ids.KindId.{KindId}
use Rattle.geo_rect.specs.declared.ids.LayerId.{LayerId}
use Rattle.geo_rect.specs.declared.shapes.Interval.{Interval}
use Rattle.geo_rect.specs.declared.shapes.Point.{Point}
use Rattle.geo_rect.specs.declared.shapes.Rect.{Rect}
use Rattle.geo_rect.specs.Axis.{HasNumber, just}
use Rattle.geo_rect.specs.Edges as edges
use Rattle.geo_rect.specs.Edges.{IsEdge, right_band, left_band, upper_band, lower_band}
use Rattle.geo_rect.specs.Line.{between}
use Rattle.geo_rect.specs.Plane.{columns, rows, HasPoint, IsMeet, ShareNoPoint}
use Rattle.geo_rect.proofs.Bands.{edge_none_if}
use Rattle.geo_rect.proofs.Clamps.{find_clamped}
use Rattle.geo_rect.proofs.Distances.{find_distance}
use Rattle.geo_rect.proofs.Parts.{low_in, high_in}
use Rattle.geo_rect.proofs.Steps.{between-self}
use Rattle.plane_core.specs.declared.sides.Side.{Side}
use Rattle.plane_core.specs.declared.sides.Side.TheVariants.{Left, Below, Right, Above}
use Rattle.plane_core.specs.Choice.{Meets}
use Rattle.plane_core.specs.Sides.{mirrored, turned_point, IsBeside}
use Rattle.plane_core.proofs.Turns.{mirrored_has, points_turn}
use Rattle.route_law.specs.Ground.{Ground, IsGround, IsWireStrip}
use Rattle.route_law.specs.Moves.{Arrival, IsEdgeMove, IsViaMove}
use Rattle.route_law.proofs.Doors.{meet_cases, find_edge}
use Rattle.route_law.proofs.Passed.{one_wire_strip}

-- each rectangle has a point
pub some_point : (r : Rect) → (p : Point) × HasPoint r p
some_point r = (record { x = r.x0; y = r.y0 }, record { across = low_in (columns r); up = low_in (rows r) })

just_is : (w v : ℤ) → HasNumber (just w) v → v ≡ w
just_is w v h = omega (arith, ints)

past_mirrored : (v w : ℤ) → v ≡ w +ℤ pos 1 → (pos 0 -ℤ v) ≡ ((pos 0 -ℤ w) -ℤ pos 1)
past_mirrored v w e = omega (arith, ints)

module _ (t u : Rect) where
  by_band : (r : Rect) → ShareNoPoint t u → IsEdge t u r → ((m : Rect) × IsMeet (right_band t) u m) ⊎ ShareNoPoint (right_band t) u → ((m : Rect) × IsMeet (left_band t) u m) ⊎ ShareNoPoint (left_band t) u → ((m : Rect) × IsMeet (upper_band t) u m) ⊎ ShareNoPoint (upper_band t) u → ((m : Rect) × IsMeet (lower_band t) u m) ⊎ ShareNoPoint (lower_band t) u → (side : Side) × IsBeside side t u
  by_band r separate e (inl m) b c d =
      let p = some_point m.0 in
      let h = m.1.first p.0 p.1 in (
        Right,
        record {
          at = turned_point Right p.0;
          past_edge = past_mirrored p.0.x t.x1 (just_is (t.x1 +ℤ pos 1) p.0.x h.across);
          in_row = mirrored_has (rows t) p.0.y h.up;
          in_first = (points_turn Right u p.0).0 (m.1.second p.0 p.1);
        },
      )
  by_band r separate e (inr a) (inl m) c d =
      let p = some_point m.0 in
      let h = m.1.first p.0 p.1 in
      (Left, record { at = p.0; past_edge = just_is (t.x0 -ℤ pos 1) p.0.x h.across; in_row = h.up; in_first = m.1.second p.0 p.1 })
  by_band r separate e (inr a) (inr b) (inl m) d =
      let p = some_point m.0 in
      let h = m.1.first p.0 p.1 in (
        Above,
        record {
          at = turned_point Above p.0;
          past_edge = past_mirrored p.0.y t.y1 (just_is (t.y1 +ℤ pos 1) p.0.y h.up);
          in_row = mirrored_has (columns t) p.0.x h.across;
          in_first = (points_turn Above u p.0).0 (m.1.second p.0 p.1);
        },
      )
  by_band r separate e (inr a) (inr b) (inr c) (inl m) =
      let p = some_point m.0 in
      let h = m.1.first p.0 p.1 in (
        Below,
        record {
          at = turned_point Below p.0;
          past_edge = just_is (t.y0 -ℤ pos 1) p.0.y h.up;
          in_row = h.across;
          in_first = (points_turn Below u p.0).0 (m.1.second p.0 p.1);
        },
      )
  by_band r separate e (inr a) (inr b) (inr c) (inr d) =
      let p = some_point r in
      let none = edge_none_if t u separate (right_band t) (left_band t) (upper_band t) (lower_band t) None refl refl refl refl a b c d in
      absurd (none p.0 (e.in_u p.0 p.1) (e.beside_t p.0 p.1))

  pub edge_has_side : (r : Rect) → ShareNoPoint t u → IsEdge t u r → (side : Side) × IsBeside side t u
  edge_has_side r separate e =
      by_band r separate e (meet_cases (right_band t) u) (meet_cases (left_band t) u) (meet_cases (upper_band t) u) (meet_cases (lower_band t) u)

-- a point of u that is none of t, and one step from it
record IsNextPoint (t u : Rect) : Type 0 where
  at : Point
  in_u : HasPoint u at
  outside : HasPoint t at → ⊥
  beside : edges.IsBeside t at

unmirrored : (i : Interval) (v : ℤ) → HasNumber (mirrored i) v → HasNumber i (pos 0 -ℤ v)
unmirrored i v h = let p = h.from in let q = h.to in record { from = omega (arith, ints); to = omega (arith, ints) }

one_below : (x v : ℤ) → v ≡ x -ℤ pos 1 → between x v ≡ 1
one_below x v e = omega (arith, ints)

one_above : (x v : ℤ) → v ≡ (pos 0 -ℤ x) -ℤ pos 1 → between x (pos 0 -ℤ v) ≡ 1
one_above x v e = omega (arith, ints)

none_below : (i : Interval) (v : ℤ) → v ≡ i.low -ℤ pos 1 → HasNumber i v → ⊥
none_below i v e h = omega (arith, ints)

none_above : (i : Interval) (v : ℤ) → v ≡ (pos 0 -ℤ i.high) -ℤ pos 1 → HasNumber i (pos 0 -ℤ v) → ⊥
none_above i v e h = omega (arith, ints)

next_point : (side : Side) (t u : Rect) → IsBeside side t u → IsNextPoint t u
next_point Left t u b = record {
  at = b.at;
  in_u = b.in_first;
  outside = λ h. none_below (columns t) b.at.x b.past_edge h.across;
  beside = record {
    point = record { x = t.x0; y = b.at.y };
    here = record { across = low_in (columns t); up = b.in_row };
    step = omega (arith, one_below t.x0 b.at.x b.past_edge, between-self b.at.y);
  };
}
next_point Below t u b = record {
  at = record { x = b.at.y; y = b.at.x };
  in_u = record { across = b.in_first.up; up = b.in_first.across };
  outside = λ h. none_below (rows t) b.at.x b.past_edge h.up;
  beside = record {
    point = record { x = b.at.y; y = t.y0 };
    here = record { across = b.in_row; up = low_in (rows t) };
    step = omega (arith, one_below t.y0 b.at.x b.past_edge, between-self b.at.y);
  };
}
next_point Right t u b = record {
  at = record { x = pos 0 -ℤ b.at.x; y = pos 0 -ℤ b.at.y };
  in_u = record { across = unmirrored (columns u) b.at.x b.in_first.across; up = unmirrored (rows u) b.at.y b.in_first.up };
  outside = λ h. none_above (columns t) b.at.x b.past_edge h.across;
  beside = record {
    point = record { x = t.x1; y = pos 0 -ℤ b.at.y };
    here = record { across = high_in (columns t); up = unmirrored (rows t) b.at.y b.in_row };
    step = omega (arith, one_above t.x1 b.at.x b.past_edge, between-self (pos 0 -ℤ b.at.y));
  };
}
next_point Above t u b = record {
  at = record { x = pos 0 -ℤ b.at.y; y = pos 0 -ℤ b.at.x };
  in_u = record { across = unmirrored (columns u) b.at.y b.in_first.up; up = unmirrored (rows u) b.at.x b.in_first.across };
  outside = λ h. none_above (rows t) b.at.x b.past_edge h.up;
  beside = record {
    point = record { x = pos 0 -ℤ b.at.y; y = t.y1 };
    here = record { across = unmirrored (columns t) b.at.y b.in_row; up = high_in (rows t) };
    step = omega (arith, one_above t.y1 b.at.x b.past_edge, between-self (pos 0 -ℤ b.at.y));
  };
}

-- two strips of a layer that are not one share no point
pub strips_apart : (g : Ground) (a : Arrival) (u : Rect) → IsGround g → IsWireStrip g a.layer a.strip → IsWireStrip g a.layer u → u ≢ a.strip → ShareNoPoint a.strip u
strips_apart g a u ground s r other p h k = other (one_wire_strip g a.layer u a.strip p ground r s k h)

pub edge_move_side : (g : Ground) (a b : Arrival) → IsGround g → IsWireStrip g a.layer a.strip → IsEdgeMove g a b → (side : Side) × IsBeside side a.strip b.strip
edge_move_side g a b ground s m =
    let r : IsWireStrip g a.layer b.strip = subst (λ (l : LayerId). IsWireStrip g l b.strip) m.same_layer m.passable in
    edge_has_side a.strip b.strip m.edge (strips_apart g a b.strip ground s r m.other_strip) m.is_edge

pub side_edge_move : (g : Ground) (a : Arrival) (u : Rect) (side : Side) → IsGround g → IsWireStrip g a.layer a.strip → IsWireStrip g a.layer u → IsBeside side a.strip u → (b : Arrival) × (b.strip ≡ u) × IsEdgeMove g a b
side_edge_move g a u side ground s r b =
    let n = next_point side a.strip u b in
    let other : u ≢ a.strip = λ e. n.outside (subst (λ (x : Rect). HasPoint x n.at) e n.in_u) in
    let edge = find_edge a.strip u (strips_apart g a u ground s r other) n.at n.in_u n.beside in
    let c = find_clamped a.front edge.0 in
    let d = find_distance a.front edge.0 in (
      record { layer = a.layer; strip = u; front = c.0; cost = a.cost + d.0 },
      refl,
      record {
        same_layer = refl;
        passable = r;
        other_strip = other;
        edge = edge.0;
        is_edge = edge.1;
        way = d.0;
        moved = record { clamped = c.1; distance = d.1 };
        cost = refl;
      },
    )

module _ (g : Ground) (k : KindId) (a b : Arrival) (m : IsViaMove g k a b) where
  pub via_strip_meets : Meets m.via_strip a.strip
  via_strip_meets =
      let p = some_point m.common in
      let h = m.is_common.of_all.first p.0 p.1 in
      record { at = p.0; in_first = m.is_common.of_two.second p.0 h; in_second = m.is_common.of_two.first p.0 h }

  pub end_strip_meets : Meets b.strip m.is_common.shared
  end_strip_meets =
      let p = some_point m.common in
      record { at = p.0; in_first = m.is_common.of_all.second p.0 p.1; in_second = m.is_common.of_all.first p.0 p.1 }
