-- A step raises what bounds a node by its price at most.
use Rattle.std.proofs.Common.{ℕ, ◌≡◌, ◌≢◌, ◌+◌, ◌≤◌, ◌⊎◌, inl, inr, refl, sym, subst, ◌∙◌, List, arith}
use Rattle.geo_rect.specs.declared.ids.KindId.{KindId}
use Rattle.geo_rect.specs.declared.ids.LayerId.{LayerId}
use Rattle.geo_rect.specs.declared.ids.Node.{Node}
use Rattle.geo_rect.specs.declared.ids.Spot.{Spot}
use Rattle.geo_rect.specs.declared.shapes.Point.{Point}
use Rattle.geo_rect.specs.declared.shapes.Rect.{Rect}
use Rattle.geo_rect.specs.Distance.{IsAway}
use Rattle.geo_rect.specs.Edges.{IsBeside}
use Rattle.geo_rect.specs.Plane.{HasPoint, ShareNoPoint}
use Rattle.geo_rect.proofs.Clamps.{find_clamped, clamped_detour}
use Rattle.geo_rect.proofs.Distances.{find_distance, step_grows, step_falls}
use Rattle.geo_rect.proofs.Nearest.{find_away}
use Rattle.board_model.specs.Labels.{IsInSpan}
use Rattle.board_model.specs.Shapes.{place_of}
use Rattle.route_law.specs.declared.certs.Cert.{Cert}
use Rattle.route_law.specs.Ground.{Ground, IsGround, IsPassableNode, IsWireStrip}
use Rattle.route_law.specs.Moves.{Arrival, IsMovedFront, arrival_of, IsEdgeMove, IsViaMove}
use Rattle.route_law.specs.Right.{IsRight}
use Rattle.route_law.specs.Walks.{IsUnitStep, IsViaStep}
use Rattle.route_law.proofs.Bounds.{IsNearEntry, IsFarFromTargets, IsBounded, bounded_more, covered_bounds}
use Rattle.route_law.proofs.Doors.{find_meet, find_edge}
use Rattle.route_law.proofs.Passed.{wire_at, via_at, one_wire_strip, point_cases}

-- a front moved into a door with the point p: the way in and the way on are no longer than the way straight on
record IsDetour (front door : Rect) (p : Point) (limit : ℕ) : Type 0 where
  moved : Rect
  way : ℕ
  is_moved : IsMovedFront front door moved way
  rest : ℕ
  away : IsAway moved p rest
  short : way + rest ≤ limit

detour : (front door : Rect) (p : Point) (n limit : ℕ) → HasPoint door p → IsAway front p n → n ≤ limit → IsDetour front door p limit
detour front door p n limit h a l =
    let c = find_clamped front door in
    let m = find_distance front door in
    let r = find_away c.0 p in
    record {
      moved = c.0;
      way = m.0;
      is_moved = record { clamped = c.1; distance = m.1 };
      rest = r.0;
      away = r.1;
      short = omega (arith, l, clamped_detour front door c.0 p m.0 r.0 n h c.1 m.1 r.1 a);
    }

module _ (g : Ground) (sources targets : List Spot) (cert : Cert) (ground : IsGround g) (right : IsRight g sources targets cert) (v w : Node) (c : ℕ) where
  far_unit : IsUnitStep v w → IsFarFromTargets targets cert.bound v c → IsBounded targets cert w (c + 1)
  far_unit s f =
      inr (record {
        least = f.least;
        is_bound = f.is_bound;
        far = λ box n k a.
            let m = find_away box.area (place_of v) in
            omega (arith, f.far box m.0 k m.1, step_falls box.area (place_of v) (place_of w) m.0 n s.one_unit m.1 a);
      })

  within_strip : IsUnitStep v w → (e : IsNearEntry cert.entries v c) → HasPoint e.entry.strip (place_of w) → IsBounded targets cert w (c + 1)
  within_strip s e h =
      let n = find_away e.entry.front (place_of w) in
      inl (record {
        entry = e.entry;
        listed = e.listed;
        same_layer = e.same_layer ∙ sym s.same_layer;
        has_point = h;
        way = n.0;
        away = n.1;
        enough = omega (arith, e.enough, step_grows e.entry.front (place_of v) (place_of w) e.way n.0 s.one_unit e.away n.1);
      })

  over_edge : IsUnitStep v w → IsPassableNode g w → (e : IsNearEntry cert.entries v c) → (HasPoint e.entry.strip (place_of w) → ⊥) → IsBounded targets cert w (c + 1)
  over_edge s p e out =
      let t : Rect = e.entry.strip in
      let u = wire_at g w ground p in
      let layers : w.layer ≡ e.entry.layer = s.same_layer ∙ sym e.same_layer in
      let passable : IsWireStrip g w.layer u.area = record { on_layer = p.on_layer; strip = u.strip } in
      let other : u.area ≢ t = λ q. out (subst (λ (r : Rect). HasPoint r (place_of w)) q u.has_point) in
      let separate : ShareNoPoint t u.area =
      λ q h k. other (one_wire_strip g e.entry.layer u.area t q ground (subst (λ (l : LayerId). IsWireStrip g l u.area) layers passable) (right.placed e.entry e.listed).passable k h) in
      let beside : IsBeside t (place_of w) = record { point = place_of v; here = e.has_point; step = s.one_unit } in
      let edge = find_edge t u.area separate (place_of w) u.has_point beside in
      let n = find_away e.entry.front (place_of w) in
      let d = detour e.entry.front edge.0 (place_of w) n.0 (e.way + 1) (edge.1.all (place_of w) u.has_point beside) n.1 (step_grows e.entry.front (place_of v) (place_of w) e.way n.0 s.one_unit e.away n.1) in
      let a : Arrival = record { layer = w.layer; strip = u.area; front = d.moved; cost = e.entry.cost + d.way } in
      let moves : IsEdgeMove g (arrival_of e.entry) a = record {
        same_layer = layers;
        passable = passable;
        other_strip = other;
        edge = edge.0;
        is_edge = edge.1;
        way = d.way;
        moved = d.is_moved;
        cost = refl;
      } in
      bounded_more targets cert w (a.cost + d.rest) (c + 1) (omega (arith, e.enough, d.short))
      (covered_bounds targets cert a w d.rest (right.complete.edges e.entry a e.listed moves) refl u.has_point d.away)

  by_unit : IsUnitStep v w → IsPassableNode g w → (e : IsNearEntry cert.entries v c) → HasPoint e.entry.strip (place_of w) ⊎ (HasPoint e.entry.strip (place_of w) → ⊥) → IsBounded targets cert w (c + 1)
  by_unit s p e (inl h) = within_strip s e h
  by_unit s p e (inr n) = over_edge s p e n

  pub unit_bounded : IsUnitStep v w → IsPassableNode g w → IsBounded targets cert v c → IsBounded targets cert w (c + 1)
  unit_bounded s p (inl e) = by_unit s p e (point_cases e.entry.strip (place_of w))
  unit_bounded s p (inr f) = far_unit s f

  module _ (k : KindId) (s : IsViaStep g k v w) where
    far_via : IsFarFromTargets targets cert.bound v c → IsBounded targets cert w (c + (g.kind k).charge)
    far_via f =
        inr (record {
          least = f.least;
          is_bound = f.is_bound;
          far = λ box n i a. omega (arith, f.far box n i (subst (λ (q : Point). IsAway box.area q n) s.same_place a));
        })

    by_via : IsPassableNode g w → IsNearEntry cert.entries v c → IsBounded targets cert w (c + (g.kind k).charge)
    by_via p e =
        let q : Point = place_of w in
        let back : place_of v ≡ q = sym s.same_place in
        let t : Rect = e.entry.strip in
        let u = wire_at g w ground p in
        let x = via_at g k (place_of v) ground s.passable in
        let ht : HasPoint t q = subst (λ (r : Point). HasPoint t r) back e.has_point in
        let hx : HasPoint x.area q = subst (λ (r : Point). HasPoint x.area r) back x.has_point in
        let two = find_meet t x.area q ht hx in
        let h2 : HasPoint two.0 q = two.1.all q ht hx in
        let all = find_meet two.0 u.area q h2 u.has_point in
        let d = detour e.entry.front all.0 q e.way e.way (all.1.all q h2 u.has_point) (subst (λ (r : Point). IsAway e.entry.front r e.way) back e.away) (omega arith) in
        let a : Arrival = record { layer = w.layer; strip = u.area; front = d.moved; cost = e.entry.cost + d.way + (g.kind k).charge } in
        let moves : IsViaMove g k (arrival_of e.entry) a = record {
          from_span = subst (λ (l : LayerId). IsInSpan (g.kind k) l) (sym e.same_layer) s.from_span;
          to_span = s.to_span;
          other_layer = λ i. s.other_layer (i ∙ e.same_layer);
          passable = record { on_layer = p.on_layer; strip = u.strip };
          via_strip = x.area;
          via_passable = record { of_kind = s.passable.of_kind; strip = x.strip };
          common = all.0;
          is_common = record { shared = two.0; of_two = two.1; of_all = all.1 };
          way = d.way;
          moved = d.is_moved;
          cost = refl {a = a.cost};
        } in
        bounded_more targets cert w (a.cost + d.rest) (c + (g.kind k).charge) (omega (arith, e.enough, d.short))
        (covered_bounds targets cert a w d.rest (right.complete.vias e.entry k a e.listed moves) refl u.has_point d.away)

    pub via_bounded : IsPassableNode g w → IsBounded targets cert v c → IsBounded targets cert w (c + (g.kind k).charge)
    via_bounded p (inl e) = by_via p e
    via_bounded p (inr f) = far_via f
