-- The way back through one entry: to its front, and from there to where it comes from.
use Rattle.std.proofs.Common.{ℕ, zero, suc, ◌≡◌, ◌+◌, ◌<◌, ◌≤◌, refl, sym, ap, subst, ◌∙◌, List, [], Contains, Option, Some, None, arith}
use Rattle.std.specs.Prelude.{slice_get}
use Rattle.std.proofs.lemmas.List.Sums.{sum_by-cons}
use Rattle.std.proofs.lemmas.Option.{same_Some, slice_get_within, get_or_from_slice_get}
use Rattle.geo_rect.specs.declared.ids.KindId.{KindId}
use Rattle.geo_rect.specs.declared.ids.LayerId.{LayerId}
use Rattle.geo_rect.specs.declared.ids.Node.{Node}
use Rattle.geo_rect.specs.declared.ids.Spot.{Spot}
use Rattle.geo_rect.specs.declared.shapes.Point.{Point}
use Rattle.geo_rect.specs.declared.shapes.Rect.{Rect}
use Rattle.geo_rect.specs.Distance.{apart, IsAway}
use Rattle.geo_rect.specs.Plane.{HasPoint}
use Rattle.geo_rect.proofs.Clamps.{clamped_level, clamped_point}
use Rattle.geo_rect.proofs.Distances.{on_point, step_grows}
use Rattle.geo_rect.proofs.Nearest.{away_one, find_away}
use Rattle.geo_rect.proofs.Parts.{lies_in_points}
use Rattle.board_model.specs.declared.made.Leg.{Leg}
use Rattle.board_model.specs.declared.made.Leg.TheVariants.{Wire, Via}
use Rattle.board_parts.specs.declared.parts.BoardParts.{BoardParts}
use Rattle.board_parts.specs.declared.parts.ViaKind.{ViaKind}
use Rattle.board_model.specs.Labels.{IsInSpan}
use Rattle.board_parts.specs.Lookup.{kind_of}
use Rattle.board_model.specs.Shapes.{place_of}
use Rattle.board_model.specs.WellFormed.{IsVia}
use Rattle.route_law.specs.declared.certs.Entry.{Entry}
use Rattle.route_law.specs.declared.certs.Origin.{Origin}
use Rattle.route_law.specs.Connections.{steps_of_legs, IsStraight}
use Rattle.route_law.specs.Ground.{Ground, IsPassableNode, IsWireStrip}
use Rattle.route_law.specs.Moves.{arrival_of, IsEdgeMove, IsViaMove}
use Rattle.route_law.specs.Right.{IsFromSource, IsFrom}
use Rattle.route_law.specs.Walks.{IsViaStep, price_of}
use Rattle.route_law.proofs.Before.{one_step_before}
use Rattle.route_law.proofs.Passed.{via_strip_passable, one_wire_strip}
use Rattle.route_law.proofs.Wires.{wire_end}
use Rattle.path_trace.specs.declared.paths.Path.{Path}
use Rattle.path_trace.specs.Paths.{node_at, legs_of, IsLed, IsPath, IsLedFrom}
use Rattle.path_trace.specs.Strips.{IsInStripOf, IsInSomeStrip, StaysInStrips}
use Rattle.path_trace.specs.Traces.{IsSound, IsTrace, IsAtFront, IsWhole, IsTracedTo, IsOneStepOff, IsCrossed}
use Rattle.path_trace.proofs.Grows.{path_led, passable_at, corner_at, unit_led, unit_stays}
use Rattle.path_trace.proofs.Strips.{led_stays}
use Rattle.path_trace.proofs.Nodes.{straight_one}

pub listed_at : {A : Type 0} (xs : List A) (n : ℕ) (x : A) → slice_get xs n ≡ Some x → Contains xs x
listed_at xs n x e = (n, slice_get_within xs n x e, get_or_from_slice_get xs n x x e)

not_far : (t : Rect) (p q : Point) (n : ℕ) → HasPoint t q → (HasPoint t p → ⊥) → apart q p ≡ n → n ≤ 1 → n ≡ 1
not_far t p q n h out e l =
    elim n as (λ k. apart q p ≡ k → k ≤ 1 → k ≡ 1) [
      | zero ↦ λ z m. absurd (out (on_point t q p z h))
      | suc k ↦ λ z m. omega arith
    ] e l

-- the nearest point of a strip to a point one step off is one step from it
pub crossed : (t : Rect) (q : Point) (old new : Path) → HasPoint t q → IsAway t (place_of old.start) (apart q (place_of old.start)) → (IsStraight (node_at old.start.layer q) old.start → IsLed (node_at old.start.layer q) (Wire old.start) old new) → IsOneStepOff t (place_of old.start) → IsCrossed t old new
crossed t q old new h a led off =
    let p : Point = place_of old.start in
    let near = a.least off.point off.here in
    let one : apart q p ≡ 1 = not_far t p q (apart q p) h off.outside refl (omega (arith, near, off.one_step)) in
    record { point = q; here = h; one_step = one; led = led (straight_one (node_at old.start.layer q) old.start refl one) }

module _ (b : BoardParts) (g : Ground) (sources : List Spot) (entries : List Entry) (goal : Node) (total : ℕ) (sound : IsSound b g sources entries) where
  part_of_strip : (e : Entry) → Contains entries e → (x : Point) → HasPoint e.front x → HasPoint e.strip x
  part_of_strip e h = (lies_in_points e.front e.strip).0 (sound.placed e h).holds

  -- to the nearest point of the front
  pub at_front : (n : ℕ) (e : Entry) (q : Point) (old new : Path) → slice_get entries n ≡ Some e → HasPoint e.front q → IsAway e.front (place_of old.start) (apart q (place_of old.start)) → IsLedFrom q old new → IsTrace b g entries goal total n old → IsAtFront b g entries e goal total new
  at_front n e q old new i h a led t =
      let is : t.entry ≡ e = same_Some t.entry e (sym t.numbered ∙ i) in
      let inside : IsInStripOf e old.start = subst (λ (x : Entry). IsInStripOf x old.start) is t.inside in
      let away : IsAway e.front (place_of old.start) t.way = subst (λ (x : Entry). IsAway x.front (place_of old.start) t.way) is t.away in
      let costs : t.entry.cost ≡ e.cost = ap (λ (x : Entry). x.cost) is in
      let way = away_one e.front (place_of old.start) t.way (apart q (place_of old.start)) away a in
      let listed = listed_at entries n e i in
      let strip : IsWireStrip g old.start.layer e.strip = subst (λ (l : LayerId). IsWireStrip g l e.strip) (sym inside.same_layer) (sound.placed e listed).passable in
      record {
        same_layer = ap (λ (x : Node). x.layer) led.start ∙ inside.same_layer;
        here = subst (λ (x : Node). HasPoint e.front (place_of x)) (sym led.start) h;
        made = t.made + apart q (place_of old.start);
        path = led.path b g e.strip goal t.made sound.ground strip inside.here (part_of_strip e listed q h) t.path;
        sum = omega (arith, t.sum, costs, way);
        strips = led.strips entries e listed inside (part_of_strip e listed q h) t.strips;
      }

  -- in the front of an entry from a source box the path is whole
  pub from_source : (j : ℕ) (e : Entry) (p : Path) → IsFromSource g sources j (arrival_of e) → IsAtFront b g entries e goal total p → IsWhole b g sources entries goal total p
  from_source j e p s at = record {
    starts = record { box = s.box; listed = listed_at sources j s.box s.numbered; same_layer = sym s.start.same_layer ∙ sym at.same_layer; has_point = s.start.common.second (place_of p.start) at.here };
    path = subst (λ (n : ℕ). IsPath b g goal p.start (legs_of p) n) (let c = s.start.cost in let t = at.sum in omega (arith, c, t)) at.path;
    strips = at.strips;
  }

  module _ (d e : Entry) (n m : ℕ) (old new : Path) (e_at : slice_get entries n ≡ Some e) (d_at : slice_get entries m ≡ Some d) (at : IsAtFront b g entries e goal total old) where
    of_d : IsWireStrip g d.layer d.strip
    of_d = (sound.placed d (listed_at entries m d d_at)).passable

    of_e : IsWireStrip g e.layer e.strip
    of_e = (sound.placed e (listed_at entries n e e_at)).passable

    in_e : HasPoint e.strip (place_of old.start)
    in_e = part_of_strip e (listed_at entries n e e_at) (place_of old.start) at.here

    passes_e : IsPassableNode g old.start
    passes_e = passable_at g e.layer e.strip old.start sound.ground.proper of_e at.same_layer in_e

    held_by_d : (u : Node) → IsInStripOf d u → IsInSomeStrip entries u
    held_by_d u h = record { entry = d; listed = listed_at entries m d d_at; inside = h }

    held_by_e : IsInSomeStrip entries old.start
    held_by_e = record { entry = e; listed = listed_at entries n e e_at; inside = record { same_layer = at.same_layer; here = in_e } }

    -- the point where the edge is left is one step from the other strip
    pub one_step_off : IsEdgeMove g (arrival_of d) (arrival_of e) → IsOneStepOff d.strip (place_of old.start)
    one_step_off move =
        let p : Point = place_of old.start in
        let at_edge : HasPoint move.edge p = clamped_point d.front move.edge e.front p move.moved.clamped at.here in
        let beside = move.is_edge.beside_t p at_edge in
        let e_there : IsWireStrip g d.layer e.strip = subst (λ (l : LayerId). IsWireStrip g l e.strip) move.same_layer of_e in
        record {
          point = beside.point;
          here = beside.here;
          one_step = beside.step;
          outside = λ k. move.other_strip (one_wire_strip g d.layer e.strip d.strip p sound.ground.proper e_there of_d in_e k);
        }

    pub by_step : IsEdgeMove g (arrival_of d) (arrival_of e) → IsCrossed d.strip old new → IsTrace b g entries goal total m new
    by_step move c =
        let p : Point = place_of old.start in
        let u : Node = node_at old.start.layer c.point in
        let off = one_step_off move in
        let layer : old.start.layer ≡ d.layer = at.same_layer ∙ move.same_layer in
        let away : IsAway d.front p move.way = clamped_level d.front move.edge e.front p move.way move.moved.clamped move.moved.distance at.here in
        let far = find_away d.front c.point in
        let before = one_step_before d.strip d.front c.point p far.0 move.way (part_of_strip d (listed_at entries m d d_at)) c.here off.outside c.one_step far.1 away in
        let after = step_grows d.front c.point p far.0 move.way c.one_step far.1 away in
        let pu : IsPassableNode g u = passable_at g d.layer d.strip u sound.ground.proper of_d layer c.here in
        let path = unit_led b g goal u old.start (legs_of old) (legs_of new) at.made sound.ground (straight_one u old.start refl c.one_step) c.one_step pu passes_e at.path c.led.legs in
        let inside : IsInStripOf d u = record { same_layer = layer; here = c.here } in
        let straight = straight_one u old.start refl c.one_step in
        let strips = led_stays entries u (Wire old.start) (legs_of old) (legs_of new) c.led.legs (wire_end u old.start straight) (unit_stays entries u old.start straight c.one_step (held_by_d u inside) held_by_e) at.strips in
        record {
          entry = d;
          numbered = d_at;
          inside = subst (λ (x : Node). IsInStripOf d x) (sym c.led.start) inside;
          way = far.0;
          away = subst (λ (x : Node). IsAway d.front (place_of x) far.0) (sym c.led.start) far.1;
          made = at.made + 1;
          path = subst (λ (x : Node). IsPath b g goal x (legs_of new) (at.made + 1)) (sym c.led.start) path;
          sum = omega (arith, at.sum, before, after, move.cost);
          strips = subst (λ (x : Node). StaysInStrips entries x (steps_of_legs x (legs_of new))) (sym c.led.start) strips;
        }

    pub by_via : (k : KindId) → IsViaMove g k (arrival_of d) (arrival_of e) → IsLed (node_at d.layer (place_of old.start)) (Via k old.start) old new → IsTrace b g entries goal total m new
    by_via k move led =
        let p : Point = place_of old.start in
        let u : Node = node_at d.layer p in
        let v : Node = old.start in
        let at_common : HasPoint move.common p = clamped_point d.front move.common e.front p move.moved.clamped at.here in
        let two = move.is_common.of_all.first p at_common in
        let in_d : HasPoint d.strip p = move.is_common.of_two.first p two in
        let in_via : HasPoint move.via_strip p = move.is_common.of_two.second p two in
        let away : IsAway d.front p move.way = clamped_level d.front move.common e.front p move.way move.moved.clamped move.moved.distance at.here in
        let pu : IsPassableNode g u = passable_at g d.layer d.strip u sound.ground.proper of_d refl in_d in
        let other : d.layer ≡ v.layer → ⊥ = λ h. move.other_layer (sym at.same_layer ∙ sym h) in
        let to_span : IsInSpan (g.kind k) v.layer = subst (λ (l : LayerId). IsInSpan (g.kind k) l) (sym at.same_layer) move.to_span in
        let stands : IsViaStep g k u v = record {
          passable = via_strip_passable g k move.via_strip p sound.ground.proper move.via_passable in_via;
          from_span = move.from_span;
          to_span = to_span;
          other_layer = λ h. other (sym h);
          same_place = refl;
        } in
        let kind : g.kind k ≡ kind_of b k = sound.ground.kind k in
        let form : IsVia b k u v = record {
          kind = subst (λ (c : ℕ). k.0 < c) sound.ground.kinds move.via_passable.of_kind;
          place = refl;
          layers = other;
          first = subst (λ (x : ViaKind). IsInSpan x d.layer) kind move.from_span;
          second = subst (λ (x : ViaKind). IsInSpan x v.layer) kind to_span;
        } in
        let step : Leg = Via k v in
        let charge = (g.kind k).charge in
        let path = path_led b g goal u step (legs_of old) (legs_of new) at.made charge at.path led.legs form (corner_at b g u sound.ground pu) (pu, stands, passes_e) refl (omega (arith, sum_by-cons (price_of g) step [])) in
        let inside : IsInStripOf d u = record { same_layer = refl; here = in_d } in
        let strips = led_stays entries u step (legs_of old) (legs_of new) led.legs refl (held_by_d u inside, held_by_e) at.strips in
        record {
          entry = d;
          numbered = d_at;
          inside = subst (λ (x : Node). IsInStripOf d x) (sym led.start) inside;
          way = move.way;
          away = subst (λ (x : Node). IsAway d.front (place_of x) move.way) (sym led.start) away;
          made = at.made + charge;
          path = subst (λ (x : Node). IsPath b g goal x (legs_of new) (at.made + charge)) (sym led.start) path;
          sum = omega (arith, at.sum, move.cost);
          strips = subst (λ (x : Node). StaysInStrips entries x (steps_of_legs x (legs_of new))) (sym led.start) strips;
        }

  -- the entry as its origin has it
  pub origin_is : (n : ℕ) (e : Entry) (o : Origin) → slice_get entries n ≡ Some e → e.origin ≡ o → IsFrom g sources entries n (arrival_of e) o
  origin_is n e o i is = subst (λ (x : Origin). IsFrom g sources entries n (arrival_of e) x) is (sound.founded n e i)

-- a path that has come to no entry is whole
pub whole_by : (b : BoardParts) (g : Ground) (sources : List Spot) (entries : List Entry) (goal : Node) (total : ℕ) (o : Option ℕ) (p : Path) → ((n : ℕ) → o ≡ Some n → ⊥) → IsTracedTo b g sources entries goal total o p → IsWhole b g sources entries goal total p
whole_by b g sources entries goal total None p stop h = h
whole_by b g sources entries goal total (Some n) p stop h = absurd (stop n refl)
