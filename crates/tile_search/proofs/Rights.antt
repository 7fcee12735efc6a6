-- Where no front that waits is of use, the settled fronts and the best goal make a right certificate.
use Rattle.std.proofs.Common.{◌≡◌, ℕ, ◌+◌, ◌≤◌, inl, inr, List, Contains, Option, Some, None, IsSomeAnd, refl, subst, arith}
use Rattle.geo_rect.specs.declared.ids.Node.{Node}
use Rattle.geo_rect.specs.declared.ids.Spot.{Spot}
use Rattle.geo_rect.specs.declared.shapes.Point.{Point}
use Rattle.geo_rect.specs.Distance.{apart, IsAway}
use Rattle.geo_rect.specs.Plane.{HasPoint}
use Rattle.geo_rect.proofs.Nearest.{find_away}
use Rattle.board_model.specs.Shapes.{place_of}
use Rattle.route_law.specs.declared.certs.Entry.{Entry}
use Rattle.route_law.specs.Covers.{IsTooLate, IsCovered}
use Rattle.route_law.specs.Ground.{Ground}
use Rattle.route_law.specs.Moves.{Arrival, arrival_of}
use Rattle.route_law.specs.Right.{IsEnd, IsLeastEnd, HasNoEnd, IsBoundOf, IsRight}
use Rattle.route_law.proofs.Doors.{find_meet}
use Rattle.wavefront.specs.Waiting.{Pair}
use Rattle.route_law.proofs.Numbered.{numbered_listed, listed_numbered}
use Rattle.tile_search.specs.declared.goals.Goal.{Goal}
use Rattle.tile_search.specs.declared.searches.Search.{Search}
use Rattle.tile_search.specs.Goals.{IsGoalAmong, IsCheapest, IsLeastGoal}
use Rattle.tile_search.specs.Keys.{IsKey}
use Rattle.tile_search.specs.Underway.{IsWaiting, IsMet, IsUnderway, bound_of, cert_of}
use Rattle.tile_search.specs.Waits.{IsLate, IsNeedless, AreNeedless}

module _ (targets : List Spot) (entries : List Entry) where
  -- a node of a target box in the strip of an entry is a goal
  goal_there : (e : Entry) (box : Spot) (v : Point) (k : ℕ) → Contains entries e → Contains targets box → box.layer ≡ e.layer → HasPoint e.strip v → HasPoint box.area v → IsAway e.front v k → (goal : Goal) × IsGoalAmong targets entries goal × (goal.cost ≡ e.cost + k)
  goal_there e box v k c d l h i a =
      let n = listed_numbered entries e c in
      let end : Node = record { x = v.x; y = v.y; layer = e.layer } in
      let goal : Goal = record { cost = e.cost + k; entry = n.0; end = end } in (
        goal,
        record {
          entry = e;
          numbered = n.1;
          reached = record {
            box = box;
            listed = d;
            at = record { numbered = refl; box_layer = l; same_layer = refl; in_box = i; in_strip = h; way = k; away = a; sum = refl };
          };
        },
        refl,
      )

  no_end : ((goal : Goal) → IsGoalAmong targets entries goal → ⊥) → HasNoEnd targets entries
  no_end none e box c d l v h i =
      let a = find_away e.front v in
      let there = goal_there e box v a.0 c d l h i a.1 in
      none there.0 there.1

  module _ (goal : Goal) (h : IsCheapest (IsGoalAmong targets entries) goal) where
    -- no entry comes to a node of a target box for less
    none_less : (e : Entry) (box : Spot) (p v : Point) → Contains entries e → Contains targets box → box.layer ≡ e.layer → HasPoint e.strip v → HasPoint box.area v → HasPoint e.front p → goal.cost ≤ e.cost + apart p v
    none_less e box p v c d l i j k =
        let a = find_away e.front v in
        let there = goal_there e box v a.0 c d l i j a.1 in
        let less = h.least there.0 there.1 in
        omega (arith, less, there.2, a.1.least p k)

    none_below : (e : Entry) (n : ℕ) → Contains entries e → IsEnd targets e n → goal.cost ≤ n
    none_below e n c k =
        let r = k.distance.reached in
        let m = k.is_common in
        let less = none_less e k.box r.0 r.1 c k.listed k.same_layer (m.first r.1 r.3) (m.second r.1 r.3) r.2 in
        omega (arith, less, k.sum, r.4)

    end_here : IsEnd targets h.there.entry goal.cost
    end_here =
        let e = h.there.entry in
        let at = h.there.reached.at in
        let box = h.there.reached.box in
        let v : Point = place_of goal.end in
        let m = find_meet e.strip box.area v at.in_strip at.in_box in
        let p = at.away.reached in
        record {
          box = box;
          listed = h.there.reached.listed;
          same_layer = at.box_layer;
          common = m.0;
          is_common = m.1;
          way = at.way;
          distance = record {
            reached = (p.0, v, p.1, m.1.all v at.in_strip at.in_box, p.2);
            least = λ x y i j.
                let less = none_less e box x y (numbered_listed entries goal.entry e h.there.numbered) h.there.reached.listed at.box_layer (m.1.first y j) (m.1.second y j) i in
                omega (arith, less, at.sum);
          };
          sum = at.sum;
        }

    least_end : IsLeastEnd targets entries goal.cost
    least_end = record {
      entry = h.there.entry;
      listed = numbered_listed entries goal.entry h.there.entry h.there.numbered;
      reached = end_here;
      least = none_below;
    }

  -- what the cheapest goal costs is the bound
  pub is_bound : (best : Option Goal) → IsLeastGoal (IsGoalAmong targets entries) best → IsBoundOf targets entries (bound_of best)
  is_bound None h = no_end h
  is_bound (Some goal) h = least_end goal h

module _ (g : Ground) (sources targets : List Spot) (s : Search) (u : IsUnderway g sources targets s) (needless : AreNeedless s.table s.best s.queue.pairs) where
  late_of : (best : Option Goal) (p : Pair) → IsKey targets p.entry p.key → IsLate best p.key → IsSomeAnd (bound_of best) (λ d. IsTooLate targets d (arrival_of p.entry))
  late_of None p k h = absurd h
  late_of (Some goal) p k h = record { low = k.low; is_low = k.is_low; late = omega (arith, h, k.sum) }

  pair_covered : (p : Pair) → IsWaiting g sources targets s.table p → IsNeedless s.table s.best p → IsCovered targets (cert_of s.table s.best) (arrival_of p.entry)
  pair_covered p w (inl r) = inl r
  pair_covered p w (inr l) = inr (late_of s.best p w.key l)

  covered : (a : Arrival) → IsMet s.table s.queue.pairs a → IsCovered targets (cert_of s.table s.best) a
  covered a (inl r) = inl r
  covered a (inr w) =
      let P : Arrival → Type 0 = λ x. IsCovered targets (cert_of s.table s.best) x in
      subst P w.same (pair_covered w.pair (u.waiting w.pair w.listed) (needless w.pair w.listed))

  pub is_right : IsRight g sources targets (cert_of s.table s.best)
  is_right = record {
    placed = u.placed;
    founded = u.founded;
    complete = record {
      starts = λ box a c h. covered a (u.starts box a c h);
      edges = λ e a c h. covered a (u.edges e a c h);
      vias = λ e k a c h. covered a (u.vias e k a c h);
    };
    bound = is_bound targets s.table s.best u.best;
  }
