-- Which nodes pieces have: of a leg, both its ends and the nodes of its boxes.
use Rattle.std.proofs.Common.{ℕ, ℤ, pos, ◌≡◌, ◌+◌, ◌-◌, ◌<◌, ◌≤◌, ◌⊎◌, inl, inr, List, [], ◌∷◌, ◌++◌, refl, ap, sym, ◌∙◌, subst, arith}
use Rattle.std.specs.Prelude.{Contains}
use Rattle.std.specs.List.{flat_map}
use Rattle.std.proofs.lemmas.Int.{ints, clamps}
use Rattle.std.proofs.lemmas.List.Elements.{Contains-append_cases}
use Rattle.std.proofs.lemmas.List.FromFn.{length-map-range_with_len, get_or-map-range_with_len}
use Rattle.plane_core.proofs.Members.{has_head, has_cases, has_none}
use Rattle.geo_rect.specs.declared.ids.KindId.{KindId}
use Rattle.geo_rect.specs.declared.ids.LayerId.{LayerId}
use Rattle.geo_rect.specs.declared.ids.NetId.{NetId}
use Rattle.geo_rect.specs.declared.ids.Node.{Node}
use Rattle.geo_rect.specs.declared.ids.Spot.{Spot}
use Rattle.geo_rect.specs.declared.shapes.Point.{Point}
use Rattle.geo_rect.specs.Axis.{HasNumber, around}
use Rattle.geo_rect.specs.Order.{just-ordered}
use Rattle.geo_rect.specs.Plane.{HasPoint, square, lone}
use Rattle.geo_rect.proofs.Distances.{on_point, lone_point}
use Rattle.board_model.specs.declared.made.Leg.{Leg}
use Rattle.board_model.specs.declared.made.Leg.TheVariants.{Wire, Via}
use Rattle.board_parts.specs.declared.parts.BoardParts.{BoardParts}
use Rattle.board_parts.specs.declared.parts.Pin.{Pin}
use Rattle.board_parts.specs.Lookup.{rule_of, pad_on, kind_of, class_of, layer_at, layers_from}
use Rattle.board_model.specs.Boxes.{spot_on, pin_boxes, leg_boxes}
use Rattle.board_model.specs.Labels.{IsInSpan}
use Rattle.board_model.specs.Segments.{stretch, segment}
use Rattle.board_model.specs.Shapes.{place_of, end_of, via_shape, leg_shapes}
use Rattle.board_model.specs.WellFormed.{IsStep}
use Rattle.route_law.specs.Walks.{HasNode}
use Rattle.net_trace.specs.declared.copper.Piece.{Piece}
use Rattle.net_trace.specs.Pieces.{spot_of, leg_piece}
use Rattle.net_trace.specs.Touching.{Touch}
use Rattle.net_trace.proofs.Members.{Contains-map, Contains-map_cases, Contains-flat_map, Contains-flat_map_cases}

-- pieces that have a node in common touch
pub touch_at : (p q : Piece) (v : Node) → HasNode p.area v → HasNode q.area v → Touch p q
touch_at p q v h k = record {
  one = h.box;
  other = k.box;
  one_listed = h.listed;
  other_listed = k.listed;
  share = record { same_layer = h.same_layer ∙ sym k.same_layer; point = place_of v; of_first = h.has_point; of_second = k.has_point };
}

-- boxes have no node, the nodes of a part, or those of one of several
pub node_nowhere : (v : Node) → HasNode [] v → ⊥
node_nowhere v h = has_none h.box h.listed

node_of : (xs : List Spot) (v : Node) (s : Spot) → Contains xs s → s.layer ≡ v.layer → HasPoint s.area (place_of v) → HasNode xs v
node_of xs v s c e p = record { box = s; listed = c; same_layer = e; has_point = p }

pub node_append : (xs ys : List Spot) (v : Node) → HasNode (xs ++ ys) v → HasNode xs v ⊎ HasNode ys v
node_append xs ys v h = elim (Contains-append_cases xs ys h.box h.listed) [
  | inl c ↦ inl (node_of xs v h.box c h.same_layer h.has_point)
  | inr c ↦ inr (node_of ys v h.box c h.same_layer h.has_point)
]

pub node_flat_map : {X : Type 0} (f : X → List Spot) (xs : List X) (v : Node) → HasNode (flat_map f xs) v → (x : X) × Contains xs x × HasNode (f x) v
node_flat_map f xs v h =
    let m = Contains-flat_map_cases f xs h.box h.listed in
    (m.0, m.1, node_of (f m.0) v h.box m.2 h.same_layer h.has_point)

pub node_into : {X : Type 0} (f : X → List Spot) (xs : List X) (x : X) (v : Node) → Contains xs x → HasNode (f x) v → HasNode (flat_map f xs) v
node_into f xs x v c h = node_of (flat_map f xs) v h.box (Contains-flat_map f xs x h.box c h.listed) h.same_layer h.has_point

-- a node of a box of one point is at that point
pub node_alone : (p : Piece) (v u : Node) → HasNode p.area v → HasNode (spot_on (lone (place_of v)) v.layer ∷ []) u → HasNode p.area u
node_alone p v u h k = by (has_cases (spot_on (lone (place_of v)) v.layer) [] k.box k.listed)
  where
    by : (spot_on (lone (place_of v)) v.layer ≡ k.box) ⊎ Contains [] k.box → HasNode p.area u
    by (inl e) =
        let there : HasPoint (lone (place_of v)) (place_of u) = subst (λ (s : Spot). HasPoint s.area (place_of u)) (sym e) k.has_point in
        let same : v.layer ≡ u.layer = ap (λ (s : Spot). s.layer) e ∙ k.same_layer in
        node_of p.area u h.box h.listed (h.same_layer ∙ same) (on_point h.box.area (place_of v) (place_of u) (lone_point (place_of v) (place_of u) there) h.has_point)
    by (inr c) = absurd (has_none k.box c)

-- ---- a wire has its ends and its centre line, and a square its middle
stretch_first : (u v h : ℤ) → HasNumber (stretch u v h) u
stretch_first u v h = record { from = omega (arith, ints, clamps); to = omega (arith, ints, clamps) }

stretch_last : (u v h : ℤ) → HasNumber (stretch u v h) v
stretch_last u v h = record { from = omega (arith, ints, clamps); to = omega (arith, ints, clamps) }

stretch_wide : (u v h x : ℤ) → HasNumber (stretch u v (pos 0)) x → HasNumber (stretch u v h) x
stretch_wide u v h x k = record { from = omega (arith, ints); to = omega (arith, ints) }

segment_first : (p q : Point) (h : ℤ) → HasPoint (segment p q h) p
segment_first p q h = record { across = stretch_first p.x q.x h; up = stretch_first p.y q.y h }

segment_last : (p q : Point) (h : ℤ) → HasPoint (segment p q h) q
segment_last p q h = record { across = stretch_last p.x q.x h; up = stretch_last p.y q.y h }

segment_wide : (p q r : Point) (h : ℤ) → HasPoint (segment p q (pos 0)) r → HasPoint (segment p q h) r
segment_wide p q r h k = record { across = stretch_wide p.x q.x h r.x k.across; up = stretch_wide p.y q.y h r.y k.up }

around_middle : (u h : ℤ) → HasNumber (around u h) u
around_middle u h = record { from = omega (arith, ints); to = omega (arith, ints) }

around_wide : (u h x : ℤ) → HasNumber (around u (pos 0)) x → HasNumber (around u h) x
around_wide u h x k = record { from = omega (arith, ints); to = omega (arith, ints) }

square_middle : (p : Point) (h : ℤ) → HasPoint (square p h) p
square_middle p h = record { across = around_middle p.x h; up = around_middle p.y h }

square_wide : (p r : Point) (h : ℤ) → HasPoint (lone p) r → HasPoint (square p h) r
square_wide p r h k = record { across = around_wide p.x h r.x k.across; up = around_wide p.y h r.y k.up }

-- ---- layers
layer_there : (first last l : LayerId) → first.0 ≤ l.0 → l.0 ≤ last.0 → Contains (layers_from first last) l
layer_there first last l from to =
    let n : ℕ = last.0 + 1 - first.0 in
    let within : l.0 - first.0 < n = omega (arith, from, to) in
    let here : first.0 + (l.0 - first.0) ≡ l.0 = omega (arith, from) in
    (l.0 - first.0, omega (arith, length-map-range_with_len layer_at first.0 n, within), get_or-map-range_with_len layer_at first.0 n (l.0 - first.0) l.0 l within here)

-- a pin has a node
pub pin_has_node : (p : Pin) → p.first.0 ≤ p.last.0 → (v : Node) × HasNode (pin_boxes p) v
pin_has_node p l =
    let v : Node = record { x = p.area.x0; y = p.area.y0; layer = p.first } in
    let c = Contains-map (spot_on p.area) (layers_from p.first p.last) p.first (layer_there p.first p.last p.first (omega arith) l) in
    let here : HasPoint p.area (place_of v) = record { across = record { from = just-ordered p.area.x0; to = p.area.x_ordered }; up = record { from = just-ordered p.area.y0; to = p.area.y_ordered } } in
    (v, node_of (pin_boxes p) v (spot_on p.area p.first) c refl here)

module _ (b : BoardParts) (n : NetId) where
  abbrev half_on : LayerId → ℤ
  half_on l = (rule_of b l (class_of b n)).half

  abbrev pad_there : KindId → LayerId → ℤ
  pad_there k l = pad_on b k (class_of b n) l

  -- a via's piece has each point of each pad
  via_has : (from : Node) (k : KindId) (to v : Node) → IsInSpan (kind_of b k) v.layer → HasPoint (square (place_of to) (pad_there k v.layer)) (place_of v) → HasNode (leg_piece b n from (Via k to)).area v
  via_has from k to v s p =
      let layers = layers_from (kind_of b k).first (kind_of b k).last in
      let c = Contains-map (via_shape b n k (place_of to)) layers v.layer (layer_there (kind_of b k).first (kind_of b k).last v.layer s.from s.to) in
      let d = Contains-map spot_of (leg_shapes b n from (Via k to)) (via_shape b n k (place_of to) v.layer) c in
      node_of (leg_piece b n from (Via k to)).area v (spot_of (via_shape b n k (place_of to) v.layer)) d refl p

  wire_has : (from to v : Node) → to.layer ≡ v.layer → HasPoint (segment (place_of from) (place_of to) (half_on to.layer)) (place_of v) → HasNode (leg_piece b n from (Wire to)).area v
  wire_has from to v e p = node_of (leg_piece b n from (Wire to)).area v _ (has_head _ []) e p

  -- a leg's piece has the node in which the leg starts, that in which it ends, and the nodes of its boxes
  pub leg_has_start : (from : Node) (leg : Leg) → IsStep b from leg → HasNode (leg_piece b n from leg).area from
  leg_has_start from (Wire to) s = wire_has from to from (sym s.form.layer) (segment_first (place_of from) (place_of to) (half_on to.layer))
  leg_has_start from (Via k to) s =
      via_has from k to from s.form.first (subst (λ (p : Point). HasPoint (square p (pad_there k from.layer)) (place_of from)) s.form.place (square_middle (place_of from) (pad_there k from.layer)))

  pub leg_has_end : (from : Node) (leg : Leg) → IsStep b from leg → HasNode (leg_piece b n from leg).area (end_of leg)
  leg_has_end from (Wire to) s = wire_has from to to refl (segment_last (place_of from) (place_of to) (half_on to.layer))
  leg_has_end from (Via k to) s = via_has from k to to s.form.second (square_middle (place_of to) (pad_there k to.layer))

  pub leg_has_boxes : (from : Node) (leg : Leg) (v : Node) → HasNode (leg_boxes b from leg) v → HasNode (leg_piece b n from leg).area v
  leg_has_boxes from (Wire to) v h = by (has_cases (spot_on (segment (place_of from) (place_of to) (pos 0)) to.layer) [] h.box h.listed)
    where
      by : (spot_on (segment (place_of from) (place_of to) (pos 0)) to.layer ≡ h.box) ⊎ Contains [] h.box → HasNode (leg_piece b n from (Wire to)).area v
      by (inl e) =
          let there : HasPoint (segment (place_of from) (place_of to) (pos 0)) (place_of v) = subst (λ (s : Spot). HasPoint s.area (place_of v)) (sym e) h.has_point in
          wire_has from to v (ap (λ (s : Spot). s.layer) e ∙ h.same_layer) (segment_wide (place_of from) (place_of to) (place_of v) (half_on to.layer) there)
      by (inr c) = absurd (has_none h.box c)
  leg_has_boxes from (Via k to) v h =
      let layers = layers_from (kind_of b k).first (kind_of b k).last in
      let m = Contains-map_cases (spot_on (lone (place_of to))) layers h.box h.listed in
      let same : m.0 ≡ v.layer = ap (λ (s : Spot). s.layer) m.2 ∙ h.same_layer in
      let there : HasPoint (lone (place_of to)) (place_of v) = subst (λ (s : Spot). HasPoint s.area (place_of v)) (sym m.2) h.has_point in
      let c = Contains-map (via_shape b n k (place_of to)) layers m.0 m.1 in
      let d = Contains-map spot_of (leg_shapes b n from (Via k to)) (via_shape b n k (place_of to) m.0) c in
      node_of (leg_piece b n from (Via k to)).area v (spot_of (via_shape b n k (place_of to) m.0)) d same (square_wide (place_of to) (place_of v) (pad_there k m.0) there)
