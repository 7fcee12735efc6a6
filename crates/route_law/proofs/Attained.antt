-- The bound of a right certificate is reached: each entry keeps its promise, by induction on its number.
use Rattle.std.proofs.Common.{ℕ, zero, suc, ◌≡◌, ◌+◌, ◌<◌, refl, sym, subst, List, [], ◌∷◌, Contains, Option, Some, None, IfSome, slice_get, arith}
use Rattle.std.proofs.lemmas.List.Sums.{sum_by-cons}
use Rattle.geo_rect.specs.declared.ids.KindId.{KindId}
use Rattle.geo_rect.specs.declared.ids.LayerId.{LayerId}
use Rattle.geo_rect.specs.declared.ids.Node.{Node}
use Rattle.geo_rect.specs.declared.ids.Spot.{Spot}
use Rattle.geo_rect.specs.declared.shapes.Point.{Point}
use Rattle.geo_rect.specs.Distance.{apart, IsAway}
use Rattle.geo_rect.specs.Plane.{HasPoint}
use Rattle.geo_rect.proofs.Clamps.{clamped_level, clamped_point}
use Rattle.geo_rect.proofs.Nearest.{find_away}
use Rattle.geo_rect.proofs.Parts.{lies_in_points}
use Rattle.board_model.specs.declared.made.Leg.{Leg}
use Rattle.board_model.specs.declared.made.Leg.TheVariants.{Wire, Via}
use Rattle.route_law.specs.declared.certs.Cert.{Cert}
use Rattle.route_law.specs.declared.certs.Entry.{Entry}
use Rattle.route_law.specs.declared.certs.Origin.{Origin}
use Rattle.route_law.specs.declared.certs.Origin.TheVariants.{Source, Step, Via as ByVia}
use Rattle.route_law.specs.Ground.{Ground, IsGround, IsWireStrip}
use Rattle.route_law.specs.Moves.{arrival_of, IsEdgeMove, IsViaMove}
use Rattle.route_law.specs.Right.{IsFromSource, IsFrom, IsLeastEnd, IsBoundOf, IsRight}
use Rattle.route_law.specs.Walks.{IsViaStep, price_of, HasNode, IsJoiningWalk, IsLowerBound, IsLeastCost}
use Rattle.route_law.proofs.Before.{one_step_before}
use Rattle.route_law.proofs.Law.{bounds_each_walk}
use Rattle.route_law.proofs.Numbered.{numbered_listed, listed_numbered}
use Rattle.route_law.proofs.Passed.{node_at, strip_passable, via_strip_passable, one_wire_strip}
use Rattle.route_law.proofs.Ways.{IsReachable, IsWay, go_on, strip_way}

module _ (g : Ground) (sources targets : List Spot) (cert : Cert) (ground : IsGround g) (right : IsRight g sources targets cert) where
  -- each point of the entry's front is reached at the entry's cost
  IsKept : Entry → Type 0
  IsKept e = (p : Point) → HasPoint e.front p → IsReachable g sources (node_at e.layer p) e.cost

  -- each entry of a number less than n is kept
  AreKeptBelow : ℕ → Type 0
  AreKeptBelow n = (m : ℕ) (e : Entry) → m < n → slice_get cert.entries m ≡ Some e → IsKept e

  part_of_strip : (e : Entry) → Contains cert.entries e → (x : Point) → HasPoint e.front x → HasPoint e.strip x
  part_of_strip e h = (lies_in_points e.front e.strip).0 (right.placed e h).holds

  -- and so each point of its strip at the distance from the front more
  kept_in_strip : (e : Entry) → Contains cert.entries e → IsKept e → (q : Point) (n : ℕ) → HasPoint e.strip q → IsAway e.front q n → IsReachable g sources (node_at e.layer q) (e.cost + n)
  unfolding IsKept
  kept_in_strip e h keep q n k a =
      let x = a.reached in
      let way = strip_way g e.layer e.strip ground (right.placed e h).passable x.0 q (part_of_strip e h x.0 x.1) k in
      go_on g sources (node_at e.layer x.0) (node_at e.layer q) e.cost (apart x.0 q) (e.cost + n) (keep x.0 x.1) way (omega (arith, x.2))

  source_kept : (e : Entry) (j : ℕ) → IsFromSource g sources j (arrival_of e) → IsKept e
  unfolding IsKept
  source_kept e j s p h =
      let v : Node = node_at e.layer p in
      let inside = s.start.common.first p h in
      record {
        start = v;
        steps = [];
        starts = record { box = s.box; listed = numbered_listed sources j s.box s.numbered; same_layer = sym s.start.same_layer; has_point = s.start.common.second p h };
        walk = strip_passable g e.layer e.strip p ground s.start.passable inside;
        ends = refl;
        cost = omega arith;
      }

  step_kept : (b e : Entry) → Contains cert.entries b → Contains cert.entries e → IsKept b → IsEdgeMove g (arrival_of b) (arrival_of e) → IsKept e
  unfolding IsKept
  step_kept b e hb he keep m p h =
      let inside = part_of_strip e he p h in
      let pb = (right.placed b hb).passable in
      let pe = (right.placed e he).passable in
      let at_edge : HasPoint m.edge p = clamped_point b.front m.edge e.front p m.moved.clamped h in
      let beside = m.is_edge.beside_t p at_edge in
      let q : Point = beside.point in
      let pe' : IsWireStrip g b.layer e.strip = subst (λ (l : LayerId). IsWireStrip g l e.strip) m.same_layer pe in
      let out : HasPoint b.strip p → ⊥ = λ k. m.other_strip (one_wire_strip g b.layer e.strip b.strip p ground pe' pb inside k) in
      let away : IsAway b.front p m.way = clamped_level b.front m.edge e.front p m.way m.moved.clamped m.moved.distance h in
      let n = find_away b.front q in
      let before = one_step_before b.strip b.front q p n.0 m.way (part_of_strip b hb) beside.here out beside.step n.1 away in
      let step : Leg = Wire (node_at e.layer p) in
      let on : IsWay g (node_at b.layer q) (node_at e.layer p) 1 = record {
        steps = step ∷ [];
        walk = (
          strip_passable g b.layer b.strip q ground pb beside.here,
          record { same_layer = m.same_layer; one_unit = beside.step },
          strip_passable g e.layer e.strip p ground pe inside,
        );
        ends = refl;
        cost = omega (arith, sum_by-cons (price_of g) step []);
      } in
      go_on g sources (node_at b.layer q) (node_at e.layer p) (b.cost + n.0) 1 e.cost (kept_in_strip b hb keep q n.0 beside.here n.1) on (omega (arith, before, m.cost))

  via_kept : (k : KindId) (b e : Entry) → Contains cert.entries b → Contains cert.entries e → IsKept b → IsViaMove g k (arrival_of b) (arrival_of e) → IsKept e
  unfolding IsKept
  via_kept k b e hb he keep m p h =
      let inside = part_of_strip e he p h in
      let pb = (right.placed b hb).passable in
      let pe = (right.placed e he).passable in
      let at_common : HasPoint m.common p = clamped_point b.front m.common e.front p m.moved.clamped h in
      let two = m.is_common.of_all.first p at_common in
      let in_b : HasPoint b.strip p = m.is_common.of_two.first p two in
      let in_via : HasPoint m.via_strip p = m.is_common.of_two.second p two in
      let away : IsAway b.front p m.way = clamped_level b.front m.common e.front p m.way m.moved.clamped m.moved.distance h in
      let step : Leg = Via k (node_at e.layer p) in
      let stands : IsViaStep g k (node_at b.layer p) (node_at e.layer p) = record {
        passable = via_strip_passable g k m.via_strip p ground m.via_passable in_via;
        from_span = m.from_span;
        to_span = m.to_span;
        other_layer = m.other_layer;
        same_place = refl;
      } in
      let on : IsWay g (node_at b.layer p) (node_at e.layer p) (g.kind k).charge = record {
        steps = step ∷ [];
        walk = (strip_passable g b.layer b.strip p ground pb in_b, stands, strip_passable g e.layer e.strip p ground pe inside);
        ends = refl;
        cost = omega (arith, sum_by-cons (price_of g) step []);
      } in
      go_on g sources (node_at b.layer p) (node_at e.layer p) (b.cost + m.way) (g.kind k).charge e.cost (kept_in_strip b hb keep p m.way in_b away) on (omega (arith, m.cost))

  kept_by : (n : ℕ) (e : Entry) (o : Origin) → AreKeptBelow n → Contains cert.entries e → IsFrom g sources cert.entries n (arrival_of e) o → IsKept e
  unfolding AreKeptBelow
  kept_by n e (Source j) below h f = source_kept e j f
  kept_by n e (Step j) below h f = step_kept f.entry e (numbered_listed cert.entries j f.entry f.numbered) h (below j f.entry f.earlier f.numbered) f.holds
  kept_by n e (ByVia j k) below h f = via_kept k f.entry e (numbered_listed cert.entries j f.entry f.numbered) h (below j f.entry f.earlier f.numbered) f.holds

  kept_below : (n : ℕ) → AreKeptBelow n
  unfolding AreKeptBelow
  kept_below zero m e h i = absurd (omega arith)
  kept_below (suc n) m e h i =
      kept_by m e e.origin (λ j b l k. kept_below n j b (omega (arith, h, l)) k) (numbered_listed cert.entries m e i) (right.founded m e i)

  kept : (e : Entry) → Contains cert.entries e → IsKept e
  unfolding AreKeptBelow
  kept e h = let n = listed_numbered cert.entries e h in kept_below (suc n.0) n.0 e (omega arith) n.1

  end_reached : (d : ℕ) → IsLeastEnd targets cert.entries d → IsLowerBound g sources targets d → IsLeastCost g sources targets d
  unfolding IsKept
  end_reached d l least =
      let e : Entry = l.entry in
      let x = l.reached.distance.reached in
      let q : Point = x.1 in
      let in_strip : HasPoint e.strip q = l.reached.is_common.first q x.3 in
      let from : IsReachable g sources (node_at e.layer x.0) e.cost = kept e l.listed x.0 x.2 in
      let way = strip_way g e.layer e.strip ground (right.placed e l.listed).passable x.0 q (part_of_strip e l.listed x.0 x.2) in_strip in
      let r = go_on g sources (node_at e.layer x.0) (node_at e.layer q) e.cost (apart x.0 q) d from way (omega (arith, x.4, l.reached.sum)) in
      let at : HasNode targets (node_at e.layer q) = record {
        box = l.reached.box;
        listed = l.reached.listed;
        same_layer = l.reached.same_layer;
        has_point = l.reached.is_common.second q x.3;
      } in
      let joins : IsJoiningWalk g sources targets r.start r.steps = record { starts = r.starts; walk = r.walk; ends = subst (λ (v : Node). HasNode targets v) (sym r.ends) at } in
      record { start = r.start; steps = r.steps; joins = joins; cost = omega (arith, r.cost, least r.start r.steps joins); least = least }

  reached_by : (o : Option ℕ) → IsBoundOf targets cert.entries o → IfSome o (λ d. IsLowerBound g sources targets d) → IfSome o (λ d. IsLeastCost g sources targets d)
  reached_by None h least = tt
  reached_by (Some d) h least = end_reached d h least

  pub bound_is_reached : IfSome cert.bound (λ d. IsLeastCost g sources targets d)
  bound_is_reached = reached_by cert.bound right.bound (bounds_each_walk g sources targets cert ground right)
