-- Keys never fall: what waits has no lesser key than what is settled, nor has the best goal.
use Rattle.std.proofs.Common.{◌≡◌, ℕ, ◌+◌, ◌≤◌, inl, inr, List, [], ◌∷◌, ◌++◌, Contains, Option, Some, None, length, sym, subst, arith}
use Rattle.std.proofs.lemmas.Bool.{cases_lt}
use Rattle.std.proofs.lemmas.List.Elements.{Contains-push_cases}
use Rattle.geo_rect.specs.declared.ids.Spot.{Spot}
use Rattle.geo_rect.proofs.Distances.{find_distance}
use Rattle.board_model.specs.Shapes.{place_of}
use Rattle.route_law.specs.declared.certs.Entry.{Entry}
use Rattle.route_law.specs.Covers.{IsLow}
use Rattle.route_law.specs.Ground.{Ground}
use Rattle.route_law.specs.Moves.{Arrival, arrival_of}
use Rattle.route_law.proofs.Lows.{low_one, moved_low}
use Rattle.strip_moves.specs.Listed.{IsMoveFrom}
use Rattle.strip_moves.specs.Listed.IsMoveFrom.{by_edge, by_via}
use Rattle.wavefront.specs.Waiting.{Pair}
use Rattle.tile_search.specs.declared.goals.Goal.{Goal}
use Rattle.tile_search.specs.Goals.{IsGoalOf, IsGoalAmong, IsLeastGoal}
use Rattle.tile_search.specs.Keys.{IsKey, IsGoalOrdered, IsOrderedToBest}
use Rattle.tile_search.specs.Underway.{IsOldOrMove}
use Rattle.tile_search.specs.Underway.IsOldOrMove.{was_there, is_move}
use Rattle.tile_search.specs.Waits.{IsLate}
use Rattle.tile_search.proofs.GoalsAt.{goals_settled}

-- the key of a move is no less than that of the entry that it leaves
move_key : (g : Ground) (targets : List Spot) (a : Arrival) (n : ℕ) (x : Entry) (low key : ℕ) → IsMoveFrom g a n x → IsLow targets a.front low → IsKey targets x key → a.cost + low ≤ key
move_key g targets a n x low key (by_edge o m) l k = omega (arith, m.cost, k.sum, moved_low targets a.front m.edge x.front m.way low k.low m.moved l k.is_low)
move_key g targets a n x low key (by_via kind o m) l k = omega (arith, m.cost, k.sum, moved_low targets a.front m.common x.front m.way low k.low m.moved l k.is_low)

module _ (targets : List Spot) (entries : List Entry) (e : Entry) (key : ℕ) (is : IsKey targets e key) where
  pub last_key : (n : ℕ) → IsLow targets e.front n → e.cost + n ≡ key
  last_key n l = omega (arith, is.sum, low_one targets e.front n is.low l is.is_low)

  -- what comes to a target box costs no less than the key
  goal_key : (n : ℕ) (goal : Goal) → IsGoalOf targets n e goal → key ≤ goal.cost
  goal_key n goal h =
      let at = h.at in
      let p = at.away.reached in
      let d = find_distance e.front h.box.area in
      omega (arith, is.sum, is.is_low.least h.box d.0 h.listed d.1, d.1.least p.0 (place_of goal.end) p.1 at.in_box, p.2, at.sum)

  module _ (before : IsGoalOrdered targets entries key) where
    -- with one more entry, each key is at most what is no less than the last
    pub ordered_more : (d : ℕ) → key ≤ d → IsGoalOrdered targets (entries ++ e ∷ []) d
    ordered_more d h x n c l =
        elim (Contains-push_cases entries e x c) [
          | inl k ↦ omega (arith, before x n k l, h)
          | inr i ↦
              let P : Entry → Type 0 = λ y. IsLow targets y.front n in
              let Q : Entry → Type 0 = λ y. y.cost + n ≤ d in
              subst Q i (let s = last_key n (subst P (sym i) l) in omega (arith, s, h))
        ]

    -- no front that waits has a lesser key than a settled one
    pub later_more : (g : Ground) (mid : List Pair) (number : ℕ) → ((p : Pair) → Contains mid p → key ≤ p.key) → (p : Pair) → IsOldOrMove g targets mid number e p → IsGoalOrdered targets (entries ++ e ∷ []) p.key
    later_more g mid number least p (was_there k) = ordered_more p.key (least p k)
    later_more g mid number least p (is_move k m) = ordered_more p.key (omega (arith, is.sum, move_key g targets (arrival_of e) number p.entry is.low p.key m is.is_low k))

    module _ (old : Option Goal) (early : IsLate old key → ⊥) (least : IsLeastGoal (IsGoalAmong targets entries) old) where
      -- an old goal costs more than the key
      among_key : (best : Option Goal) (goal : Goal) → (IsLate best key → ⊥) → IsLeastGoal (IsGoalAmong targets entries) best → IsGoalAmong targets entries goal → key ≤ goal.cost
      among_key None goal f l h = absurd (l goal h)
      among_key (Some m) goal f l h =
          elim (cases_lt key m.cost) [
            | inl k ↦ (let below = l.least goal h in omega (arith, k, below))
            | inr k ↦ absurd (f k)
          ]

      new_key : (goal : Goal) → IsGoalAmong targets (entries ++ e ∷ []) goal → key ≤ goal.cost
      new_key goal h =
          elim ((goals_settled targets entries e).cases goal h) [
            | inl k ↦ among_key old goal early least k
            | inr k ↦ goal_key (length entries) goal k
          ]

      -- nor does the best goal cost less
      pub best_ordered : (new : Option Goal) → IsLeastGoal (IsGoalAmong targets (entries ++ e ∷ [])) new → IsOrderedToBest targets (entries ++ e ∷ []) new
      best_ordered None l = tt
      best_ordered (Some goal) l = ordered_more goal.cost (new_key goal l.there)
