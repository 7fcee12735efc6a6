-- What settling a front does, from what it asks for: a place in the table, its goals, and its moves.
use Rattle.std.proofs.Common.{◌≡◌, ℕ, ◌+◌, ◌^◌, ◌<◌, ◌≤◌, inl, inr, List, [], ◌∷◌, ◌++◌, All, Contains, Option, length, sym, subst}
use Rattle.std.proofs.lemmas.List.Elements.{All-contains}
use Rattle.geo_rect.specs.declared.ids.KindId.{KindId}
use Rattle.geo_rect.specs.declared.ids.Spot.{Spot}
use Rattle.route_law.specs.declared.certs.Entry.{Entry}
use Rattle.route_law.specs.declared.certs.Origin.TheVariants.{Step, Via}
use Rattle.route_law.specs.Ground.{Ground}
use Rattle.route_law.specs.Moves.{Arrival, arrival_of, IsEdgeMove, IsViaMove}
use Rattle.strip_moves.specs.Listed.{HasArrival, IsMoveFrom}
use Rattle.wavefront.specs.Waiting.{Pair}
use Rattle.tile_search.specs.declared.goals.Goal.{Goal}
use Rattle.tile_search.specs.declared.searches.Search.{Search}
use Rattle.tile_search.specs.Goals.{IsLeastGoal, IsGoalOf, IsGoalAmong, lesser_of}
use Rattle.tile_search.specs.Underway.{IsOldOrMove, IsSettled}
use Rattle.tile_search.specs.Underway.IsOldOrMove.{was_there, is_move}
use Rattle.tile_search.specs.Waits.{IsPushed}
use Rattle.tile_search.proofs.Cheapest.{least_of_either}
use Rattle.tile_search.proofs.GoalsAt.{goals_settled}
use Rattle.tile_search.proofs.Pushed.{waits_pushed}

-- the moves of the entry of this number, and its cheapest goal
pub record HasAllMoves (g : Ground) (targets : List Spot) (e : Entry) (moves : List Entry) (found : Option Goal) (n : ℕ) : Type 0 where
  pub each : All (IsMoveFrom g (arrival_of e) n) moves
  pub edges : (a : Arrival) → IsEdgeMove g (arrival_of e) a → HasArrival moves (Step n) a
  pub vias : (k : KindId) (a : Arrival) → IsViaMove g k (arrival_of e) a → HasArrival moves (Via n k) a
  pub goals : IsLeastGoal (IsGoalOf targets n e) found

module _ (g : Ground) (targets : List Spot) (old new : Search) (e : Entry) (moves : List Entry) (found : Option Goal) (pushed : IsPushed targets old.queue.pairs new.queue.pairs moves) (h : HasAllMoves g targets e moves found (length old.table)) where
  old_or_move : (p : Pair) → Contains new.queue.pairs p → IsOldOrMove g targets old.queue.pairs (length old.table) e p
  old_or_move p k =
      elim (pushed.each p k) [
        | inl o ↦ was_there o
        | inr m ↦ is_move m.key (All-contains (IsMoveFrom g (arrival_of e) (length old.table)) moves p.entry h.each m.listed)
      ]

  best_more : new.table ≡ old.table ++ e ∷ [] → new.best ≡ lesser_of old.best found → IsLeastGoal (IsGoalAmong targets old.table) old.best → IsLeastGoal (IsGoalAmong targets new.table) new.best
  best_more table best before =
      let Q : Option Goal → Type 0 = λ o. IsLeastGoal (IsGoalAmong targets (old.table ++ e ∷ [])) o in
      let P : List Entry → Type 0 = λ es. IsLeastGoal (IsGoalAmong targets es) new.best in
      subst P (sym table)
      (subst Q (sym best)
      (least_of_either (IsGoalAmong targets old.table) (IsGoalOf targets (length old.table) e) (IsGoalAmong targets (old.table ++ e ∷ [])) (goals_settled targets old.table e) old.best found before h.goals))

  pub settled_by : length old.table < 2 ^ 63 → new.table ≡ old.table ++ e ∷ [] → new.best ≡ lesser_of old.best found → new.queue.pushes ≤ old.queue.pushes + 2 ^ 63 → IsSettled g targets old new e
  settled_by room table best pushes = record {
    room = room;
    table = table;
    kept = pushed.kept;
    each = old_or_move;
    edges = λ a m. waits_pushed targets old.queue.pairs new.queue.pairs moves (Step (length old.table)) a pushed (h.edges a m);
    vias = λ k a m. waits_pushed targets old.queue.pairs new.queue.pairs moves (Via (length old.table) k) a pushed (h.vias k a m);
    best = best_more table best;
    pushes = pushes;
  }
