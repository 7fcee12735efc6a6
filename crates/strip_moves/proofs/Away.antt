-- The steps away from a strip of a plane are those on its four sides, and are the moves by edges.
use Rattle.std.proofs.Common.{◌≡◌, ◌⊎◌, inl, inr, refl, sym, ◌∙◌, ap, subst, List, Contains, arith}
use Rattle.geo_rect.specs.declared.ids.LayerId.{LayerId}
use Rattle.geo_rect.specs.declared.shapes.Point.{Point}
use Rattle.geo_rect.specs.declared.shapes.Rect.{Rect}
use Rattle.geo_rect.specs.Plane.{HasPoint, ShareNoPoint}
use Rattle.plane_core.specs.declared.sides.Side.{Side}
use Rattle.plane_core.specs.declared.sides.Side.TheVariants.{Left, Below, Right, Above}
use Rattle.plane_core.specs.declared.strips.Strip.{Strip}
use Rattle.plane_core.specs.Labels.{label_of, IsPlane}
use Rattle.plane_core.specs.Sides.{IsBeside}
use Rattle.plane_core.proofs.Alike.{strip_inside, strips_meet}
use Rattle.route_law.specs.Ground.{Ground, HasLayer, IsPassableStrip, IsWireStrip}
use Rattle.route_law.specs.Moves.{Arrival, arrival_of, IsEdgeMove}
use Rattle.strip_moves.specs.declared.departures.Departure.{Departure}
use Rattle.strip_moves.specs.Ways.{IsStepOnSide, IsStepAway}
use Rattle.strip_moves.proofs.Sides.{IsBesideSomewhere, beside_itself, edge_side}

-- one of the four sides
abbrev pub IsStepAround : List Strip → Departure → Arrival → Type 0
IsStepAround strips d a = ((IsStepOnSide strips Left d a ⊎ IsStepOnSide strips Below d a) ⊎ IsStepOnSide strips Right d a) ⊎ IsStepOnSide strips Above d a

module _ (domain : Rect) (strips : List Strip) (d : Departure) (plane : IsPlane domain strips) (passable : IsPassableStrip strips d.net d.from.strip) where
  abbrev old_strip : Strip
  old_strip = record { area = d.from.strip; label = passable.label }

  -- the strip that has a point of the old one is the old one
  pub same_strip : (t : Strip) (p : Point) → Contains strips t → HasPoint t.area p → HasPoint d.from.strip p → t.area ≡ d.from.strip
  same_strip t p listed in_t in_old =
      ap (λ (s : Strip). s.area) (strips_meet domain (label_of strips) t old_strip p (plane.each t listed) (plane.each old_strip passable.listed) in_t in_old)

  pub point_inside : (p : Point) → HasPoint d.from.strip p → HasPoint domain p
  point_inside p h = strip_inside domain (label_of strips) old_strip p (plane.each old_strip passable.listed) h

  on_side : (side : Side) (a : Arrival) → IsStepOnSide strips side d a → IsStepAway strips d a
  on_side side a h = record {
    passable = h.passable;
    other_strip = λ e. beside_itself side d.from.strip (subst (λ (r : Rect). IsBeside side d.from.strip r) e h.beside);
    over = h.over;
  }

  pub away_of : (a : Arrival) → IsStepAround strips d a → IsStepAway strips d a
  away_of a (inl (inl (inl h))) = on_side Left a h
  away_of a (inl (inl (inr h))) = on_side Below a h
  away_of a (inl (inr h)) = on_side Right a h
  away_of a (inr h) = on_side Above a h

  apart : (a : Arrival) → IsStepAway strips d a → ShareNoPoint d.from.strip a.strip
  apart a h p in_old in_new = h.other_strip (same_strip (record { area = a.strip; label = h.passable.label }) p h.passable.listed in_new in_old)

  step : (side : Side) (a : Arrival) → IsStepAway strips d a → IsBeside side d.from.strip a.strip → IsStepOnSide strips side d a
  step side a h beside = record { passable = h.passable; beside = beside; over = h.over }

  around_by : (a : Arrival) → IsStepAway strips d a → IsBesideSomewhere d.from.strip a.strip → IsStepAround strips d a
  around_by a h (inl b) = inl (inl (inl (step Left a h b)))
  around_by a h (inr (inl b)) = inl (inl (inr (step Below a h b)))
  around_by a h (inr (inr (inl b))) = inl (inr (step Right a h b))
  around_by a h (inr (inr (inr b))) = inr (step Above a h b)

  pub of_away : (a : Arrival) → IsStepAway strips d a → IsStepAround strips d a
  of_away a h = around_by a h (edge_side d.from.strip a.strip h.over.edge (apart a h) h.over.is_edge)

-- the steps away on the layer itself, at no charge, are the moves by edges
module _ (g : Ground) (strips : List Strip) (d : Departure) (is : strips ≡ g.wire_strips d.from.layer) (net : d.net ≡ g.net) (on_layer : HasLayer g d.from.layer) (layer : d.layer ≡ d.from.layer) (free : d.charge ≡ 0) where
  pub edge_of : (a : Arrival) → IsStepAway strips d a → IsEdgeMove g (arrival_of d.from) a
  edge_of a h =
      let t = h.over.through in
      let same : a.layer ≡ d.from.layer = t.to_layer ∙ layer in
      let on_strips : IsPassableStrip (g.wire_strips d.from.layer) d.net a.strip = subst (λ (ss : List Strip). IsPassableStrip ss d.net a.strip) is h.passable in
      let of_net : IsPassableStrip (g.wire_strips d.from.layer) g.net a.strip = subst (λ n. IsPassableStrip (g.wire_strips d.from.layer) n a.strip) net on_strips in
      record {
        same_layer = same;
        passable = subst (λ (l : LayerId). IsWireStrip g l a.strip) (sym same) (record { on_layer = on_layer; strip = of_net });
        other_strip = h.other_strip;
        edge = h.over.edge;
        is_edge = h.over.is_edge;
        way = t.way;
        moved = t.moved;
        cost = (let c = t.cost in omega arith);
      }

  pub of_edge : (a : Arrival) → IsEdgeMove g (arrival_of d.from) a → IsStepAway strips d a
  of_edge a h =
      let there : IsWireStrip g d.from.layer a.strip = subst (λ (l : LayerId). IsWireStrip g l a.strip) h.same_layer h.passable in
      let on_net : IsPassableStrip (g.wire_strips d.from.layer) d.net a.strip = subst (λ n. IsPassableStrip (g.wire_strips d.from.layer) n a.strip) (sym net) there.strip in
      record {
        passable = subst (λ (ss : List Strip). IsPassableStrip ss d.net a.strip) (sym is) on_net;
        other_strip = h.other_strip;
        over = record {
          edge = h.edge;
          is_edge = h.is_edge;
          through = record {
            to_layer = h.same_layer ∙ sym layer;
            to_strip = refl;
            way = h.way;
            moved = h.moved;
            cost = (let c = h.cost in omega arith);
          };
        };
      }
