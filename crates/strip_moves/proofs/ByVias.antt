-- The jumps to a layer that a kind joins with the old one are the moves to it by vias of the kind.
use Rattle.std.proofs.Common.{ℕ, ◌≡◌, ◌+◌, refl, sym, ◌∙◌, ap, subst, List, Contains}
use Rattle.geo_rect.specs.declared.ids.KindId.{KindId}
use Rattle.geo_rect.specs.declared.ids.LayerId.{LayerId}
use Rattle.geo_rect.specs.declared.ids.NetId.{NetId}
use Rattle.board_model.specs.Labels.{Admits}
use Rattle.plane_core.specs.declared.strips.Strip.{Strip}
use Rattle.route_law.specs.Ground.{Ground, HasLayer, HasKind, IsPassableStrip, IsWireStrip}
use Rattle.route_law.specs.Moves.{Arrival, arrival_of}
use Rattle.strip_moves.specs.declared.departures.Departure.{Departure}
use Rattle.strip_moves.specs.Spans.{IsOtherLayer, IsViaMoveTo}
use Rattle.strip_moves.specs.Ways.{IsJump}

pub no_jump : (g : Ground) (k : KindId) (a : Arrival) (l : LayerId) → (IsOtherLayer (g.kind k) a.layer l → ⊥) → (b : Arrival) → IsViaMoveTo g k a l b → ⊥
no_jump g k a l n b h =
    let other : IsOtherLayer (g.kind k) a.layer b.layer = record { from_span = h.move.from_span; to_span = h.move.to_span; other = h.move.other_layer } in
    n (subst (IsOtherLayer (g.kind k) a.layer) h.to_layer other)

module _ (g : Ground) (k : KindId) (d : Departure) (vias strips : List Strip) (of_kind : HasKind g k) (on_layer : HasLayer g d.layer)
    (is_vias : vias ≡ g.via_strips k) (is_strips : strips ≡ g.wire_strips d.layer) (net : d.net ≡ g.net) (charge : d.charge ≡ (g.kind k).charge)
    (other : IsOtherLayer (g.kind k) d.from.layer d.layer) where
  pub move_of : (a : Arrival) → IsJump vias strips d a → IsViaMoveTo g k (arrival_of d.from) d.layer a
  move_of a h =
      let j = h.through.jump in
      let t = j.within.through in
      let spans : IsOtherLayer (g.kind k) d.from.layer a.layer = subst (IsOtherLayer (g.kind k) d.from.layer) (sym t.to_layer) other in
      let there : IsPassableStrip (g.wire_strips d.layer) g.net a.strip = subst (λ (n : NetId). IsPassableStrip (g.wire_strips d.layer) n a.strip) net (subst (λ (ss : List Strip). IsPassableStrip ss d.net a.strip) is_strips j.passable) in
      record {
        to_layer = t.to_layer;
        move = record {
          from_span = spans.from_span;
          to_span = spans.to_span;
          other_layer = spans.other;
          passable = subst (λ (l : LayerId). IsWireStrip g l a.strip) (sym t.to_layer) (record { on_layer = on_layer; strip = there });
          via_strip = h.via_strip.area;
          via_passable = record {
            of_kind = of_kind;
            strip = record {
              label = h.via_strip.label;
              listed = subst (λ (ss : List Strip). Contains ss h.via_strip) is_vias h.listed;
              admits = subst (λ (n : NetId). Admits h.via_strip.label n) net h.through.admits;
            };
          };
          common = j.within.common;
          is_common = record { shared = h.through.part; of_two = h.through.is_part; of_all = j.within.is_common };
          way = t.way;
          moved = t.moved;
          cost = t.cost ∙ ap (λ (n : ℕ). d.from.cost + t.way + n) charge;
        };
      }

  pub of_move : (a : Arrival) → IsViaMoveTo g k (arrival_of d.from) d.layer a → IsJump vias strips d a
  of_move a to =
      let h = to.move in
      let there : IsWireStrip g d.layer a.strip = subst (λ (l : LayerId). IsWireStrip g l a.strip) to.to_layer h.passable in
      let w : Strip = record { area = h.via_strip; label = h.via_passable.strip.label } in
      record {
        via_strip = w;
        listed = subst (λ (ss : List Strip). Contains ss w) (sym is_vias) h.via_passable.strip.listed;
        through = record {
          admits = subst (λ (n : NetId). Admits w.label n) (sym net) h.via_passable.strip.admits;
          part = h.is_common.shared;
          is_part = h.is_common.of_two;
          jump = record {
            passable = subst (λ (ss : List Strip). IsPassableStrip ss d.net a.strip) (sym is_strips) (subst (λ (n : NetId). IsPassableStrip (g.wire_strips d.layer) n a.strip) (sym net) there.strip);
            within = record {
              common = h.common;
              is_common = h.is_common.of_all;
              through = record {
                to_layer = to.to_layer;
                to_strip = refl;
                way = h.way;
                moved = h.moved;
                cost = h.cost ∙ ap (λ (n : ℕ). d.from.cost + h.way + n) (sym charge);
              };
            };
          };
        };
      }
