-- What the moves of a settled front are to a search: they wait, in strips that the net may pass.
use Rattle.std.proofs.Common.{◌≡◌, ℕ, ◌≤◌, ◌⊎◌, inl, inr, List, [], ◌∷◌, ◌++◌, Contains, Some, length, refl, sym, subst, arith}
use Rattle.std.specs.Prelude.{slice_get}
use Rattle.std.proofs.lemmas.List.Elements.{Contains-push, Contains-append_left}
use Rattle.geo_rect.specs.declared.ids.KindId.{KindId}
use Rattle.geo_rect.specs.declared.ids.Spot.{Spot}
use Rattle.geo_rect.specs.declared.shapes.Rect.{Rect}
use Rattle.geo_rect.specs.Distance.{IsReach}
use Rattle.geo_rect.proofs.Clamps.{clamped_point}
use Rattle.geo_rect.proofs.Parts.{lies_in_from}
use Rattle.geo_rect.proofs.Reaches.{find_reach, reach_zero}
use Rattle.route_law.specs.declared.certs.Entry.{Entry}
use Rattle.route_law.specs.declared.certs.Origin.{Origin}
use Rattle.route_law.specs.declared.certs.Origin.TheVariants.{Source, Step, Via}
use Rattle.route_law.specs.Ground.{Ground}
use Rattle.route_law.specs.Moves.{Arrival, arrival_of, IsEdgeMove, IsViaMove}
use Rattle.route_law.specs.Covers.{IsReachedBefore}
use Rattle.route_law.specs.Right.{IsStart, IsWellPlaced, IsFrom, IsFromEntry}
use Rattle.strip_moves.specs.Listed.{IsMoveFrom}
use Rattle.strip_moves.specs.Listed.IsMoveFrom.{by_edge, by_via}
use Rattle.wavefront.specs.Waiting.{Pair}
use Rattle.tile_search.specs.Underway.{IsWaiting, IsOldOrMove, IsMet}
use Rattle.tile_search.specs.Underway.IsOldOrMove.{was_there, is_move}
use Rattle.tile_search.specs.Waits.{IsStartPair, IsLeft}
use Rattle.tile_search.proofs.Numbered.{one_more, numbered_kept, numbered_last, numbered_cases}

-- a front reaches itself at once
pub itself : (f : Rect) → IsReach f f 0
itself f =
    let r = find_reach f f in
    let e : r.0 ≡ 0 = (reach_zero f f r.0 r.1).1 (λ p h. h) in
    subst (IsReach f f) e r.1

module _ (g : Ground) where
  pub start_placed : (box : Spot) (e : Entry) → IsStart g box (arrival_of e) → IsWellPlaced g e
  start_placed box e h = record { passable = h.passable; holds = lies_in_from e.front e.strip h.common.first }

  pub edge_placed : (a : Arrival) (e : Entry) → IsEdgeMove g a (arrival_of e) → IsWellPlaced g e
  edge_placed a e h = record {
    passable = h.passable;
    holds = lies_in_from e.front e.strip (λ p k. h.is_edge.in_u p (clamped_point a.front h.edge e.front p h.moved.clamped k));
  }

  pub via_placed : (k : KindId) (a : Arrival) (e : Entry) → IsViaMove g k a (arrival_of e) → IsWellPlaced g e
  via_placed k a e h = record {
    passable = h.passable;
    holds = lies_in_from e.front e.strip (λ p i. h.is_common.of_all.second p (clamped_point a.front h.common e.front p h.moved.clamped i));
  }

  pub move_placed : (a : Arrival) (n : ℕ) (e : Entry) → IsMoveFrom g a n e → IsWellPlaced g e
  move_placed a n e (by_edge o m) = edge_placed a e m
  move_placed a n e (by_via k o m) = via_placed k a e m

  module _ (sources : List Spot) (entries : List Entry) where
    -- where a front comes from is not changed by one more entry
    module _ (e : Entry) (n m : ℕ) (less : n ≤ m) where
      entry_kept : (i : ℕ) (Holds : Arrival → Type 0) → IsFromEntry entries n i Holds → IsFromEntry (entries ++ e ∷ []) m i Holds
      entry_kept i Holds h = record {
        entry = h.entry;
        earlier = omega (arith, less, h.earlier);
        numbered = numbered_kept entries e i h.entry h.numbered;
        holds = h.holds;
      }

      pub from_kept : (a : Arrival) (o : Origin) → IsFrom g sources entries n a o → IsFrom g sources (entries ++ e ∷ []) m a o
      from_kept a (Source i) h = h
      from_kept a (Step i) h = entry_kept i (λ b. IsEdgeMove g b a) h
      from_kept a (Via i k) h = entry_kept i (λ b. IsViaMove g k b a) h

    module _ (e : Entry) where
      from_last : (Holds : Arrival → Type 0) → Holds (arrival_of e) → IsFromEntry (entries ++ e ∷ []) (length (entries ++ e ∷ [])) (length entries) Holds
      from_last Holds h = record { entry = e; earlier = omega (arith, one_more entries e); numbered = numbered_last entries e; holds = h }

      -- a move of the last entry comes from where its origin says
      pub move_founded : (x : Entry) → IsMoveFrom g (arrival_of e) (length entries) x → IsFrom g sources (entries ++ e ∷ []) (length (entries ++ e ∷ [])) (arrival_of x) x.origin
      move_founded x (by_edge o m) =
          subst (λ (y : Origin). IsFrom g sources (entries ++ e ∷ []) (length (entries ++ e ∷ [])) (arrival_of x) y) (sym o) (from_last (λ b. IsEdgeMove g b (arrival_of x)) m)
      move_founded x (by_via k o m) =
          subst (λ (y : Origin). IsFrom g sources (entries ++ e ∷ []) (length (entries ++ e ∷ [])) (arrival_of x) y) (sym o) (from_last (λ b. IsViaMove g k b (arrival_of x)) m)

      waiting_kept : (targets : List Spot) (p : Pair) → IsWaiting g sources targets entries p → IsWaiting g sources targets (entries ++ e ∷ []) p
      waiting_kept targets p h = record {
        key = h.key;
        placed = h.placed;
        founded = from_kept e (length entries) (length (entries ++ e ∷ [])) (omega (arith, one_more entries e)) (arrival_of p.entry) p.entry.origin h.founded;
      }

      -- what waits after one more front is settled
      pub waiting_more : (targets : List Spot) (old : List Pair) (p : Pair) → ((q : Pair) → Contains old q → IsWaiting g sources targets entries q) → IsOldOrMove g targets old (length entries) e p → IsWaiting g sources targets (entries ++ e ∷ []) p
      waiting_more targets old p h (was_there k) = waiting_kept targets p (h p k)
      waiting_more targets old p h (is_move key m) = record { key = key; placed = move_placed (arrival_of e) (length entries) p.entry m; founded = move_founded p.entry m }

      last_founded : (n : ℕ) (x : Entry) → n ≡ length entries → e ≡ x → IsFrom g sources entries (length entries) (arrival_of e) e.origin → IsFrom g sources (entries ++ e ∷ []) n (arrival_of x) x.origin
      last_founded n x i q h =
          let P : ℕ → Type 0 = λ m. IsFrom g sources (entries ++ e ∷ []) m (arrival_of e) e.origin in
          let Q : Entry → Type 0 = λ y. IsFrom g sources (entries ++ e ∷ []) n (arrival_of y) y.origin in
          subst Q q (subst P (sym i) (from_kept e (length entries) (length entries) (omega arith) (arrival_of e) e.origin h))

      -- each entry still comes from where it says
      pub founded_more : ((n : ℕ) (x : Entry) → slice_get entries n ≡ Some x → IsFrom g sources entries n (arrival_of x) x.origin) → IsFrom g sources entries (length entries) (arrival_of e) e.origin
          → (n : ℕ) (x : Entry) → slice_get (entries ++ e ∷ []) n ≡ Some x → IsFrom g sources (entries ++ e ∷ []) n (arrival_of x) x.origin
      founded_more old last n x h =
          elim (numbered_cases entries e n x h) [
            | inl k ↦ from_kept e n n (omega arith) (arrival_of x) x.origin (old n x k)
            | inr k ↦ last_founded n x k.0 k.1 last
          ]

  -- a start that waits comes from its source box
  pub start_waiting : (sources targets : List Spot) (n : ℕ) (p : Pair) → IsStartPair g sources targets n p → IsWaiting g sources targets [] p
  start_waiting sources targets n p h = record {
    key = h.key;
    placed = start_placed h.box p.entry h.start.start;
    founded = subst (λ (o : Origin). IsFrom g sources [] 0 (arrival_of p.entry) o) (sym h.start.from) (record { box = h.box; numbered = h.numbered; start = h.start.start });
  }

module _ (entries : List Entry) (e : Entry) (old mid new : List Pair) (rest : (p : Pair) → Contains old p → (p.entry ≡ e) ⊎ IsLeft entries mid p) (kept : (p : Pair) → Contains mid p → Contains new p) where
  reached_kept : (a : Arrival) → IsReachedBefore entries a → IsReachedBefore (entries ++ e ∷ []) a
  reached_kept a h = record {
    entry = h.entry;
    listed = Contains-append_left entries (e ∷ []) h.entry h.listed;
    same_layer = h.same_layer;
    same_strip = h.same_strip;
    way = h.way;
    reach = h.reach;
    enough = h.enough;
  }

  reached_itself : IsReachedBefore (entries ++ e ∷ []) (arrival_of e)
  reached_itself = record {
    entry = e;
    listed = Contains-push entries e;
    same_layer = refl;
    same_strip = refl;
    way = 0;
    reach = itself e.front;
    enough = omega arith;
  }

  pair_met : (p : Pair) → Contains old p → IsMet (entries ++ e ∷ []) new (arrival_of p.entry)
  pair_met p h =
      elim (rest p h) [
        | inl q ↦ inl (subst (λ (x : Entry). IsReachedBefore (entries ++ e ∷ []) (arrival_of x)) (sym q) reached_itself)
        | inr (inl k) ↦ inr (record { pair = p; listed = kept p k; same = refl })
        | inr (inr r) ↦ inl (reached_kept (arrival_of p.entry) r)
      ]

  -- what was met is met
  pub met_more : (a : Arrival) → IsMet entries old a → IsMet (entries ++ e ∷ []) new a
  met_more a (inl r) = inl (reached_kept a r)
  met_more a (inr w) = subst (λ (x : Arrival). IsMet (entries ++ e ∷ []) new x) w.same (pair_met w.pair w.listed)
