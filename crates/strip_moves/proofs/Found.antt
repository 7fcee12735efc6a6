-- What a plane finds, and the ways into what it found.
use Rattle.std.proofs.Common.{◌≡◌, List, sym, subst}
use Rattle.std.specs.Prelude.{Contains}
use Rattle.geo_rect.specs.declared.shapes.Rect.{Rect}
use Rattle.geo_rect.specs.Plane.{IsMeet, ShareNoPoint}
use Rattle.board_model.specs.Labels.{Admits}
use Rattle.plane_core.specs.declared.sides.Side.{Side}
use Rattle.plane_core.specs.declared.strips.Strip.{Strip}
use Rattle.plane_core.specs.Choice.{IsChoice, Meets}
use Rattle.plane_core.specs.Sides.{IsBeside}
use Rattle.route_law.specs.Ground.{IsPassableStrip}
use Rattle.route_law.specs.Moves.{Arrival}
use Rattle.strip_moves.specs.declared.departures.Departure.{Departure}
use Rattle.strip_moves.specs.Gains.{IsFromOneOf}
use Rattle.strip_moves.specs.Ways.{IsOverEdge, IsStepInto, IsStepOnSide, IsWithin, IsJumpInto, IsJumpWithin, IsJumpThrough, IsJump}
use Rattle.strip_moves.proofs.Ways.{first_point, has_first, same_meet}

module _ (strips found : List Strip) (d : Departure) where
  passable_found : (s : Strip) (area : Rect) → Contains strips s → Admits s.label d.net → area ≡ s.area → IsPassableStrip strips d.net area
  passable_found s area listed admits e =
      subst (λ (r : Rect). IsPassableStrip strips d.net r) (sym e) (record { label = s.label; listed = listed; admits = admits })

  module _ (t : Rect) (same : t ≡ d.from.strip) (side : Side) (choice : IsChoice strips (λ s. IsBeside side t s.area) found) where
    pub step_of : (a : Arrival) → IsFromOneOf found (IsStepInto d) a → IsStepOnSide strips side d a
    step_of a h =
        let s = h.strip in
        let e : a.strip ≡ s.area = h.from.over.through.to_strip in
        let beside : IsBeside side d.from.strip s.area = subst (λ (r : Rect). IsBeside side r s.area) same (choice.wanted s h.listed) in
        record {
          passable = passable_found s a.strip (choice.listed s h.listed) h.from.admits e;
          beside = subst (λ (r : Rect). IsBeside side d.from.strip r) (sym e) beside;
          over = subst (λ (r : Rect). IsOverEdge d r a) (sym e) h.from.over;
        }

    pub of_step : (a : Arrival) → IsStepOnSide strips side d a → IsFromOneOf found (IsStepInto d) a
    of_step a h =
        let s : Strip = record { area = a.strip; label = h.passable.label } in
        record {
          strip = s;
          listed = choice.complete s h.passable.listed (subst (λ (r : Rect). IsBeside side r a.strip) (sym same) h.beside);
          from = record { admits = h.passable.admits; over = h.over };
        }

  module _ (part : Rect) (choice : IsChoice strips (λ s. Meets s.area part) found) where
    pub jump_of : (a : Arrival) → IsFromOneOf found (IsJumpInto d part) a → IsJumpWithin strips d part a
    jump_of a h =
        let s = h.strip in
        let e : a.strip ≡ s.area = h.from.within.through.to_strip in
        record {
          passable = passable_found s a.strip (choice.listed s h.listed) h.from.admits e;
          within = subst (λ (r : Rect). IsWithin d part r a) (sym e) h.from.within;
        }

    pub of_jump : (a : Arrival) → IsJumpWithin strips d part a → IsFromOneOf found (IsJumpInto d part) a
    of_jump a h =
        let s : Strip = record { area = a.strip; label = h.passable.label } in
        let w = h.within in
        let p = first_point w.common in
        let k = has_first w.common in
        record {
          strip = s;
          listed = choice.complete s h.passable.listed (record { at = p; in_first = w.is_common.second p k; in_second = w.is_common.first p k });
          from = record { admits = h.passable.admits; within = w };
        }

-- the part is what the via strip has of the old one
module _ (strips : List Strip) (d : Departure) (w : Strip) (admits : Admits w.label d.net) (part : Rect) (is_part : IsMeet d.from.strip w.area part) where
  pub through_of : (a : Arrival) → IsJumpWithin strips d part a → IsJumpThrough strips d w a
  through_of a h = record { admits = admits; part = part; is_part = is_part; jump = h }

  pub of_through : (a : Arrival) → IsJumpThrough strips d w a → IsJumpWithin strips d part a
  of_through a h = subst (λ (r : Rect). IsJumpWithin strips d r a) (same_meet d.from.strip w.area h.part part h.is_part is_part) h.jump

-- a part with no point of the via strip lets nothing through
pub through_none : (strips : List Strip) (d : Departure) (w : Strip) (a : Arrival) → ShareNoPoint d.from.strip w.area → IsJumpThrough strips d w a → ⊥
through_none strips d w a n h =
    let p = first_point h.part in
    let k = has_first h.part in
    n p (h.is_part.first p k) (h.is_part.second p k)

module _ (vias strips found : List Strip) (d : Departure) (choice : IsChoice vias (λ s. Meets s.area d.from.strip) found) where
  pub via_of : (a : Arrival) → IsFromOneOf found (IsJumpThrough strips d) a → IsJump vias strips d a
  via_of a h = record { via_strip = h.strip; listed = choice.listed h.strip h.listed; through = h.from }

  pub of_via : (a : Arrival) → IsJump vias strips d a → IsFromOneOf found (IsJumpThrough strips d) a
  of_via a h =
      let w = h.through in
      let p = first_point w.part in
      let k = has_first w.part in
      record {
        strip = h.via_strip;
        listed = choice.complete h.via_strip h.listed (record { at = p; in_first = w.is_part.second p k; in_second = w.is_part.first p k });
        from = w;
      }
