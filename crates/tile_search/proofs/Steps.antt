-- A search stays one when a front is taken out and settled.
use Rattle.std.proofs.Common.{◌≡◌, ℕ, ◌+◌, ◌*◌, ◌^◌, ◌<◌, ◌≤◌, inl, inr, List, [], ◌∷◌, ◌++◌, All, Contains, None, Some, length, sym, subst, arith}
use Rattle.std.specs.Prelude.{slice_get}
use Rattle.std.proofs.lemmas.Option.{slice_get_within}
use Rattle.std.proofs.lemmas.List.Elements.{All-weaker, All-contains_itself, Contains-push_cases}
use Rattle.geo_rect.specs.declared.ids.KindId.{KindId}
use Rattle.geo_rect.specs.declared.ids.NetId.{NetId}
use Rattle.geo_rect.specs.declared.ids.Spot.{Spot}
use Rattle.board_parts.specs.declared.parts.BoardParts.{BoardParts}
use Rattle.board_parts.specs.Rules.{IsBoard}
use Rattle.plane_core.proofs.Members.{has_none}
use Rattle.plane_set.specs.Standing.{PlaneTable, HasPlanes}
use Rattle.route_law.specs.declared.certs.Entry.{Entry}
use Rattle.route_law.specs.Ground.{Ground}
use Rattle.route_law.specs.Moves.{Arrival, arrival_of, IsEdgeMove, IsViaMove}
use Rattle.route_law.specs.Right.{IsStart, IsWellPlaced, IsFrom}
use Rattle.strip_moves.specs.Grounds.{ground_of}
use Rattle.wavefront.specs.Waiting.{Pair, Waiting}
use Rattle.strip_moves.proofs.Bounded.{front_bounded}
use Rattle.route_law.proofs.Numbered.{listed_numbered, numbered_listed}
use Rattle.tile_search.specs.declared.searches.Search.{Search}
use Rattle.tile_search.specs.Goals.{IsLeastGoal, IsGoalAmong}
use Rattle.tile_search.specs.Keys.{IsGoalOrdered, IsOrderedToBest}
use Rattle.tile_search.specs.Once.{AreSettledOnce}
use Rattle.tile_search.specs.Underway.{IsWaiting, IsMet, IsUnderway, IsSettled}
use Rattle.tile_search.specs.Waits.{HasStarts, HasBoundedFront, IsNext}
use Rattle.tile_search.proofs.Costs.{waiting_cost}
use Rattle.tile_search.proofs.Numbered.{one_more}
use Rattle.tile_search.proofs.Onces.{none_once, settled_once_more}
use Rattle.tile_search.proofs.Rising.{later_more, best_ordered}
use Rattle.tile_search.proofs.Settled.{start_waiting, waiting_more, founded_more, met_more}

-- the search with another queue
abbrev pub with_queue : Search → Waiting → Search
with_queue s q = record { queue = q; table = s.table; best = s.best }

module _ (g : Ground) (sources targets : List Spot) where
  first_met : (pairs : List Pair) → HasStarts g sources targets (length sources) pairs → (box : Spot) (a : Arrival) → Contains sources box → IsStart g box a → IsMet [] pairs a
  first_met pairs h box a c s =
      let n = listed_numbered sources box c in
      inr (h.all n.0 box a (slice_get_within sources n.0 box n.1) n.1 s)

  -- at first the starts wait
  pub underway_first : (q : Waiting) → HasStarts g sources targets (length sources) q.pairs → q.pushes ≤ 2 ^ 126 → IsUnderway g sources targets (record { queue = q; table = []; best = None })
  underway_first q h l = record {
    placed = λ e c. absurd (has_none e c);
    founded = λ n e i. absurd (has_none e (numbered_listed [] n e i));
    waiting = λ p c. start_waiting g sources targets (length sources) p (h.each p c);
    starts = first_met q.pairs h;
    edges = λ e a c m. absurd (has_none e c);
    vias = λ e k a c m. absurd (has_none e c);
    best = λ goal i. has_none i.entry (numbered_listed [] goal.entry i.entry i.numbered);
    once = none_once targets;
    later = λ p c e n k l. absurd (has_none e k);
    ordered = tt;
    pushes = omega (arith, l);
  }

  module _ (s : Search) (q : Waiting) (new : Search) (e : Entry) (u : IsUnderway g sources targets s) (next : IsNext s.table s.best s.queue.pairs q.pairs e) (settled : IsSettled g targets (with_queue s q) new e) where
    abbrev table : List Entry
    table = s.table ++ e ∷ []

    next_waiting : IsWaiting g sources targets s.table (record { key = next.key; entry = e })
    next_waiting = u.waiting (record { key = next.key; entry = e }) next.listed

    placed_more : (x : Entry) → Contains table x → IsWellPlaced g x
    placed_more x c =
        elim (Contains-push_cases s.table e x c) [
          | inl k ↦ u.placed x k
          | inr i ↦ subst (IsWellPlaced g) i next_waiting.placed
        ]

    met : (a : Arrival) → IsMet s.table s.queue.pairs a → IsMet table new.queue.pairs a
    met a h = met_more s.table e s.queue.pairs q.pairs new.queue.pairs next.rest settled.kept a h

    waiting : (p : Pair) → Contains new.queue.pairs p → IsWaiting g sources targets table p
    waiting p c = waiting_more g sources s.table e targets q.pairs p (λ x k. u.waiting x (next.kept x k)) (settled.each p c)

    edges_more : (x : Entry) (a : Arrival) → Contains table x → IsEdgeMove g (arrival_of x) a → IsMet table new.queue.pairs a
    edges_more x a c m =
        elim (Contains-push_cases s.table e x c) [
          | inl k ↦ met a (u.edges x a k m)
          | inr i ↦ inr (settled.edges a (subst (λ (y : Entry). IsEdgeMove g (arrival_of y) a) (sym i) m))
        ]

    vias_more : (x : Entry) (k : KindId) (a : Arrival) → Contains table x → IsViaMove g k (arrival_of x) a → IsMet table new.queue.pairs a
    vias_more x k a c m =
        elim (Contains-push_cases s.table e x c) [
          | inl h ↦ met a (u.vias x k a h m)
          | inr i ↦ inr (settled.vias k a (subst (λ (y : Entry). IsViaMove g k (arrival_of y) a) (sym i) m))
        ]

    no_later : IsGoalOrdered targets s.table next.key
    no_later = u.later (record { key = next.key; entry = e }) next.listed

    -- the same of the new search, whose table is that
    pub record IsStepped (entries : List Entry) : Type 0 where
      pub placed : (x : Entry) → Contains entries x → IsWellPlaced g x
      pub founded : (n : ℕ) (x : Entry) → slice_get entries n ≡ Some x → IsFrom g sources entries n (arrival_of x) x.origin
      pub waiting : (p : Pair) → Contains new.queue.pairs p → IsWaiting g sources targets entries p
      pub starts : (box : Spot) (a : Arrival) → Contains sources box → IsStart g box a → IsMet entries new.queue.pairs a
      pub edges : (x : Entry) (a : Arrival) → Contains entries x → IsEdgeMove g (arrival_of x) a → IsMet entries new.queue.pairs a
      pub vias : (x : Entry) (k : KindId) (a : Arrival) → Contains entries x → IsViaMove g k (arrival_of x) a → IsMet entries new.queue.pairs a
      pub once : AreSettledOnce targets entries
      pub later : (p : Pair) → Contains new.queue.pairs p → IsGoalOrdered targets entries p.key

    stepped : IsStepped table
    stepped = record {
      placed = placed_more;
      founded = founded_more g sources s.table e u.founded next_waiting.founded;
      waiting = waiting;
      starts = λ box a c h. met a (u.starts box a c h);
      edges = edges_more;
      vias = vias_more;
      once = settled_once_more targets s.table e next.key next_waiting.key no_later u.once next.uncovered;
      later = λ p c. later_more targets s.table e next.key next_waiting.key no_later g q.pairs (length s.table) next.least p (settled.each p c);
    }

    pub underway_more : q.pushes ≡ s.queue.pushes → IsUnderway g sources targets new
    underway_more same =
        let t : IsStepped new.table = subst IsStepped (sym settled.table) stepped in
        let best = settled.best u.best in
        let P : List Entry → Type 0 = λ es. IsLeastGoal (IsGoalAmong targets es) new.best in
        let Q : List Entry → Type 0 = λ es. IsOrderedToBest targets es new.best in
        let ordered = best_ordered targets s.table e next.key next_waiting.key no_later s.best next.early u.best new.best (subst P settled.table best) in
        let size : length new.table ≡ length s.table + 1 = subst (λ (es : List Entry). length es ≡ length s.table + 1) (sym settled.table) (one_more s.table e) in
        record {
          placed = t.placed;
          founded = t.founded;
          waiting = t.waiting;
          starts = t.starts;
          edges = t.edges;
          vias = t.vias;
          best = best;
          once = t.once;
          later = t.later;
          ordered = subst Q (sym settled.table) ordered;
          pushes = omega (arith, settled.pushes, u.pushes, same, size);
        }

-- of a search on a board
module _ (b : BoardParts) (set : PlaneTable) (n : NetId) (board : IsBoard b) (planes : HasPlanes b set) (known : n.0 < length b.net_names) (sources targets : List Spot) (s : Search) (u : IsUnderway (ground_of b set n) sources targets s) where
  pub fronts_bounded : All HasBoundedFront s.queue.pairs
  fronts_bounded =
      All-weaker (Contains s.queue.pairs) HasBoundedFront (λ p c. front_bounded b set n board planes known p.entry (u.waiting p c).placed) s.queue.pairs (All-contains_itself s.queue.pairs)

  module _ (pairs : List Pair) (e : Entry) (next : IsNext s.table s.best s.queue.pairs pairs e) where
    pub next_placed : IsWellPlaced (ground_of b set n) e
    next_placed = (u.waiting (record { key = next.key; entry = e }) next.listed).placed

    pub next_cost : e.cost ≤ length s.table * 2 ^ 28
    next_cost = waiting_cost b set n board planes known sources targets s.table u.placed u.founded (record { key = next.key; entry = e }) (u.waiting (record { key = next.key; entry = e }) next.listed)
