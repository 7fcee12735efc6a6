-- Of the strips of a plane those that have an edge with one of them are beside it, on some side.
use Rattle.std.proofs.Common.{ℕ, ℤ, pos, ◌≡◌, ◌<◌, length, get_or, ◌+ℤ◌, ◌-ℤ◌, ◌⊎◌, inl, inr, None, refl, sym, subst, List, arith}
use Rattle.std.specs.Prelude.{Contains}
use Rattle.std.proofs.lemmas.Int.{ints}
use Rattle.std.proofs.lemmas.List.Elements.{Contains-get_or}
use Rattle.geo_rect.specs.declared.shapes.Interval.{Interval}
use Rattle.geo_rect.specs.declared.shapes.Point.{Point}
use Rattle.geo_rect.specs.declared.shapes.Rect.{Rect}
use Rattle.geo_rect.specs.Axis.{HasNumber, just}
use Rattle.geo_rect.specs.Edges.{IsEdge, right_band, left_band, upper_band, lower_band}
use Rattle.geo_rect.specs.Plane.{columns, rows, HasPoint, IsMeet, ShareNoPoint}
use Rattle.geo_rect.proofs.Bands.{edge_none_if}
use Rattle.plane_core.specs.declared.sides.Side.{Side}
use Rattle.plane_core.specs.declared.sides.Side.TheVariants.{Left, Below, Right, Above}
use Rattle.plane_core.specs.declared.strips.Strip.{Strip}
use Rattle.plane_core.specs.Choice.{IsChoice}
use Rattle.plane_core.specs.Labels.{label_of, IsPlane}
use Rattle.plane_core.specs.Sides.{turned, turned_point, IsLeftOf, IsBeside}
use Rattle.plane_core.proofs.Alike.{strip_inside, strips_meet}
use Rattle.plane_core.proofs.Turns.{mirrored_has, points_turn}
use Rattle.route_law.proofs.Doors.{meet_cases}
use Rattle.strip_moves.proofs.Ways.{first_point, has_first}

before_itself : (i : Interval) (v : ℤ) → v ≡ i.low -ℤ pos 1 → HasNumber i v → ⊥
before_itself i v e h = let f = h.from in omega (arith, ints)

left_of_itself : (r : Rect) → IsLeftOf r r → ⊥
left_of_itself r h = before_itself (columns r) h.at.x h.past_edge h.in_first.across

-- no rectangle is beside itself
pub beside_itself : (side : Side) (r : Rect) → IsBeside side r r → ⊥
beside_itself side r h = left_of_itself (turned side r) h

-- what is beside a strip of a plane has no point of it
pub beside_apart : (domain : Rect) (strips : List Strip) (side : Side) (t s : Strip) → IsPlane domain strips → Contains strips t → Contains strips s → IsBeside side t.area s.area → ShareNoPoint t.area s.area
beside_apart domain strips side t s plane ht hs beside p in_t in_s =
    let e : t ≡ s = strips_meet domain (label_of strips) t s p (plane.each t ht) (plane.each s hs) in_t in_s in
    beside_itself side s.area (subst (λ (x : Strip). IsBeside side x.area s.area) e beside)

-- a strip that a plane found on a side of t
module _ (domain : Rect) (strips items : List Strip) (side : Side) (t : Strip) (plane : IsPlane domain strips) (listed : Contains strips t) (choice : IsChoice strips (λ s. IsBeside side t.area s.area) items)
    (i : ℕ) (u : Strip) (within : i < length items) (is : u ≡ get_or items i u) where
  here : Contains items u
  here = subst (Contains items) (sym is) (Contains-get_or items i u within)

  pub found_inside : (p : Point) → HasPoint u.area p → HasPoint domain p
  found_inside p h = strip_inside domain (label_of strips) u p (plane.each u (choice.listed u here)) h

  pub found_apart : (old : Rect) → t.area ≡ old → ShareNoPoint old u.area
  found_apart old same =
      subst (λ (r : Rect). ShareNoPoint r u.area) same (beside_apart domain strips side t u plane listed (choice.listed u here) (choice.wanted u here))

just_number : (w v : ℤ) → HasNumber (just w) v → v ≡ w
just_number w v h = let f = h.from in let k = h.to in omega (arith, ints)

turned_after : (v w : ℤ) → v ≡ w +ℤ pos 1 → (pos 0 -ℤ v) ≡ (pos 0 -ℤ w) -ℤ pos 1
turned_after v w e = omega (arith, ints)

module _ (t u : Rect) (p : Point) (in_u : HasPoint u p) where
  beside_left : HasPoint (left_band t) p → IsBeside Left t u
  beside_left h = record {
    at = p;
    past_edge = just_number (t.x0 -ℤ pos 1) p.x h.across;
    in_row = h.up;
    in_first = in_u;
  }

  beside_below : HasPoint (lower_band t) p → IsBeside Below t u
  beside_below h = record {
    at = turned_point Below p;
    past_edge = just_number (t.y0 -ℤ pos 1) p.y h.up;
    in_row = h.across;
    in_first = (points_turn Below u p).0 in_u;
  }

  beside_right : HasPoint (right_band t) p → IsBeside Right t u
  beside_right h = record {
    at = turned_point Right p;
    past_edge = turned_after p.x t.x1 (just_number (t.x1 +ℤ pos 1) p.x h.across);
    in_row = mirrored_has (rows t) p.y h.up;
    in_first = (points_turn Right u p).0 in_u;
  }

  beside_above : HasPoint (upper_band t) p → IsBeside Above t u
  beside_above h = record {
    at = turned_point Above p;
    past_edge = turned_after p.y t.y1 (just_number (t.y1 +ℤ pos 1) p.y h.up);
    in_row = mirrored_has (columns t) p.x h.across;
    in_first = (points_turn Above u p).0 in_u;
  }

-- u is beside t on one of the four sides
abbrev pub IsBesideSomewhere : Rect → Rect → Type 0
IsBesideSomewhere t u = IsBeside Left t u ⊎ (IsBeside Below t u ⊎ (IsBeside Right t u ⊎ IsBeside Above t u))

module _ (t u edge : Rect) (separate : ShareNoPoint t u) (is_edge : IsEdge t u edge) where
  has_edge : ((r : Rect) × IsMeet (right_band t) u r) ⊎ ShareNoPoint (right_band t) u → ((r : Rect) × IsMeet (left_band t) u r) ⊎ ShareNoPoint (left_band t) u → ((r : Rect) × IsMeet (upper_band t) u r) ⊎ ShareNoPoint (upper_band t) u → ((r : Rect) × IsMeet (lower_band t) u r) ⊎ ShareNoPoint (lower_band t) u → IsBesideSomewhere t u
  has_edge (inl m) b c d = let k = has_first m.0 in let p = first_point m.0 in inr (inr (inl (beside_right t u p (m.1.second p k) (m.1.first p k))))
  has_edge (inr a) (inl m) c d = let k = has_first m.0 in let p = first_point m.0 in inl (beside_left t u p (m.1.second p k) (m.1.first p k))
  has_edge (inr a) (inr b) (inl m) d = let k = has_first m.0 in let p = first_point m.0 in inr (inr (inr (beside_above t u p (m.1.second p k) (m.1.first p k))))
  has_edge (inr a) (inr b) (inr c) (inl m) = let k = has_first m.0 in let p = first_point m.0 in inr (inl (beside_below t u p (m.1.second p k) (m.1.first p k)))
  has_edge (inr a) (inr b) (inr c) (inr d) =
      let k = has_first edge in
      let p = first_point edge in
      absurd (edge_none_if t u separate (right_band t) (left_band t) (upper_band t) (lower_band t) None refl refl refl refl a b c d p (is_edge.in_u p k) (is_edge.beside_t p k))

  pub edge_side : IsBesideSomewhere t u
  edge_side = has_edge (meet_cases (right_band t) u) (meet_cases (left_band t) u) (meet_cases (upper_band t) u) (meet_cases (lower_band t) u)
