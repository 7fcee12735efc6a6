-- The starts in the strips that a box meets are the starts of the box.
use Rattle.std.proofs.Common.{ℕ, ◌≡◌, refl, sym, ◌∙◌, subst, inl, inr, List, [], All, Contains}
use Rattle.std.proofs.lemmas.List.Elements.{All-weaker, All-contains_itself}
use Rattle.geo_rect.specs.declared.ids.LayerId.{LayerId}
use Rattle.geo_rect.specs.declared.ids.NetId.{NetId}
use Rattle.geo_rect.specs.declared.ids.Spot.{Spot}
use Rattle.geo_rect.specs.declared.shapes.Rect.{Rect}
use Rattle.geo_rect.specs.Plane.{IsMeet, ShareNoPoint}
use Rattle.plane_core.specs.declared.strips.Strip.{Strip}
use Rattle.plane_core.specs.Choice.{IsChoice, Meets}
use Rattle.plane_core.proofs.Members.{has_none}
use Rattle.route_law.specs.declared.certs.Entry.{Entry}
use Rattle.route_law.specs.declared.certs.Origin.TheVariants.{Source}
use Rattle.route_law.specs.Ground.{Ground, HasLayer, IsPassableStrip, IsWireStrip}
use Rattle.route_law.specs.Moves.{Arrival}
use Rattle.route_law.specs.Right.{IsStart}
use Rattle.strip_moves.specs.Gains.{Gains, IsFromOneOf}
use Rattle.strip_moves.specs.Listed.{HasArrival, IsStartFrom}
use Rattle.strip_moves.specs.Ways.{IsStartIn, IsStartAmong}
use Rattle.strip_moves.proofs.Gains.{gains_as}
use Rattle.strip_moves.proofs.Ways.{first_point, has_first, same_meet, same_arrival}

module _ (box : Spot) (net : NetId) (u : Strip) where
  pub start_none : (a : Arrival) → ShareNoPoint u.area box.area → IsStartIn box net u a → ⊥
  start_none a n h =
      let p = first_point a.front in
      let k = has_first a.front in
      n p (h.common.first p k) (h.common.second p k)

  pub one_start : (a b : Arrival) → IsStartIn box net u a → IsStartIn box net u b → a ≡ b
  one_start a b h k =
      same_arrival a b (h.same_layer ∙ sym k.same_layer) (h.same_strip ∙ sym k.same_strip)
      (same_meet u.area box.area a.front b.front h.common k.common) (h.cost ∙ sym k.cost)

module _ (strips found : List Strip) (box : Spot) (net : NetId) (choice : IsChoice strips (λ s. Meets s.area box.area) found) where
  pub start_among : (a : Arrival) → IsFromOneOf found (IsStartIn box net) a → IsStartAmong strips box net a
  start_among a h =
      let s = h.strip in
      let f = h.from in
      let there : IsPassableStrip strips net s.area = record { label = s.label; listed = choice.listed s h.listed; admits = f.admits } in
      record {
        passable = subst (λ (r : Rect). IsPassableStrip strips net r) (sym f.same_strip) there;
        same_layer = f.same_layer;
        common = subst (λ (r : Rect). IsMeet r box.area a.front) (sym f.same_strip) f.common;
        cost = f.cost;
      }

  pub among_start : (a : Arrival) → IsStartAmong strips box net a → IsFromOneOf found (IsStartIn box net) a
  among_start a h =
      let s : Strip = record { area = a.strip; label = h.passable.label } in
      let p = first_point a.front in
      let k = has_first a.front in
      record {
        strip = s;
        listed = choice.complete s h.passable.listed (record { at = p; in_first = h.common.first p k; in_second = h.common.second p k });
        from = record { admits = h.passable.admits; same_layer = h.same_layer; same_strip = refl; common = h.common; cost = h.cost };
      }

module _ (g : Ground) (strips : List Strip) (box : Spot) (is : strips ≡ g.wire_strips box.layer) (on_layer : HasLayer g box.layer) where
  start_of : (a : Arrival) → IsStartAmong strips box g.net a → IsStart g box a
  start_of a h =
      let there : IsWireStrip g box.layer a.strip = record { on_layer = on_layer; strip = subst (λ (ss : List Strip). IsPassableStrip ss g.net a.strip) is h.passable } in
      record {
        same_layer = h.same_layer;
        passable = subst (λ (l : LayerId). IsWireStrip g l a.strip) (sym h.same_layer) there;
        common = h.common;
        cost = h.cost;
      }

  of_start : (a : Arrival) → IsStart g box a → IsStartAmong strips box g.net a
  of_start a h =
      let there : IsWireStrip g box.layer a.strip = subst (λ (l : LayerId). IsWireStrip g l a.strip) h.same_layer h.passable in
      record {
        passable = subst (λ (ss : List Strip). IsPassableStrip ss g.net a.strip) (sym is) there.strip;
        same_layer = h.same_layer;
        common = h.common;
        cost = h.cost;
      }

  module _ (n : ℕ) (none entries : List Entry) (empty : none ≡ []) (gains : Gains none entries (Source n) (IsStartAmong strips box g.net)) where
    gained : Gains [] entries (Source n) (IsStart g box)
    gained =
        gains_as (Source n) [] entries (IsStartAmong strips box g.net) (IsStart g box) start_of of_start
        (subst (λ (old : List Entry). Gains old entries (Source n) (IsStartAmong strips box g.net)) empty gains)

    -- what an empty list gained is all that it has
    pub each_start : All (IsStartFrom g box n) entries
    each_start =
        All-weaker (Contains entries) (IsStartFrom g box n)
        (λ e k. elim (gained.each e k) [
          | inl old ↦ absurd (has_none e old)
          | inr w ↦ record { start = w.wanted; from = w.from }
        ])
        entries (All-contains_itself entries)

    pub all_starts : (a : Arrival) → IsStart g box a → HasArrival entries (Source n) a
    all_starts = gained.all
