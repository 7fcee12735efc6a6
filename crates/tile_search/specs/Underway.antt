-- What holds of a search at every moment, and what it does when it settles a front.
use Rattle.std.specs.Prelude.{ℕ, ◌≡◌, ◌+◌, ◌*◌, ◌^◌, ◌<◌, ◌≤◌, ◌⊎◌, List, [], ◌∷◌, ◌++◌, Contains, Option, Some, None, length, slice_get}
use Rattle.geo_rect.specs.declared.ids.KindId.{KindId}
use Rattle.geo_rect.specs.declared.ids.Spot.{Spot}
use Rattle.route_law.specs.declared.certs.Cert.{Cert}
use Rattle.route_law.specs.declared.certs.Entry.{Entry}
use Rattle.route_law.specs.Ground.{Ground}
use Rattle.route_law.specs.Moves.{Arrival, arrival_of, IsEdgeMove, IsViaMove}
use Rattle.route_law.specs.Covers.{IsReachedBefore}
use Rattle.route_law.specs.Right.{IsStart, IsWellPlaced, IsFrom}
use Rattle.strip_moves.specs.Listed.{IsMoveFrom}
use Rattle.wavefront.specs.Waiting.{Pair}
use Rattle.tile_search.specs.declared.goals.Goal.{Goal}
use Rattle.tile_search.specs.declared.searches.Search.{Search}
use Rattle.tile_search.specs.Goals.{IsLeastGoal, IsGoalAmong}
use Rattle.tile_search.specs.Keys.{IsKey, IsGoalOrdered, IsOrderedToBest}
use Rattle.tile_search.specs.Once.{AreSettledOnce}
use Rattle.tile_search.specs.Waits.{Waits}

-- what the best goal costs
abbrev pub bound_of : Option Goal → Option ℕ
bound_of None = None
bound_of (Some goal) = Some goal.cost

-- the certificate of settled fronts and the best goal
abbrev pub cert_of : List Entry → Option Goal → Cert
cert_of entries best = record { bound = bound_of best; entries = entries }

-- a front that waits: it waits under its key, in a strip that the net may pass, and comes from where its
-- origin says, a source box or a settled front
pub record IsWaiting (g : Ground) (sources targets : List Spot) (entries : List Entry) (p : Pair) : Type 0 where
  pub key : IsKey targets p.entry p.key
  pub placed : IsWellPlaced g p.entry
  pub founded : IsFrom g sources entries (length entries) (arrival_of p.entry) p.entry.origin

-- a settled front covers the arrival, or it waits
abbrev pub IsMet : List Entry → List Pair → Arrival → Type 0
IsMet entries pairs a = IsReachedBefore entries a ⊎ Waits pairs a

-- a search under way
pub record IsUnderway (g : Ground) (sources targets : List Spot) (s : Search) : Type 0 where
  pub placed : (e : Entry) → Contains s.table e → IsWellPlaced g e
  pub founded : (n : ℕ) (e : Entry) → slice_get s.table n ≡ Some e → IsFrom g sources s.table n (arrival_of e) e.origin
  pub waiting : (p : Pair) → Contains s.queue.pairs p → IsWaiting g sources targets s.table p
  pub starts : (box : Spot) (a : Arrival) → Contains sources box → IsStart g box a → IsMet s.table s.queue.pairs a
  pub edges : (e : Entry) (a : Arrival) → Contains s.table e → IsEdgeMove g (arrival_of e) a → IsMet s.table s.queue.pairs a
  pub vias : (e : Entry) (k : KindId) (a : Arrival) → Contains s.table e → IsViaMove g k (arrival_of e) a → IsMet s.table s.queue.pairs a
  pub best : IsLeastGoal (IsGoalAmong targets s.table) s.best
  pub once : AreSettledOnce targets s.table
  pub later : (p : Pair) → Contains s.queue.pairs p → IsGoalOrdered targets s.table p.key
  pub ordered : IsOrderedToBest targets s.table s.best
  pub pushes : s.queue.pushes ≤ 2 ^ 126 + length s.table * 2 ^ 63

-- a front that waits is one of the old ones, or a move from the entry of number n
pub data IsOldOrMove (g : Ground) (targets : List Spot) (old : List Pair) (n : ℕ) (e : Entry) (p : Pair) : Type 0 where
  was_there : Contains old p → IsOldOrMove g targets old n e p
  is_move : IsKey targets p.entry p.key → IsMoveFrom g (arrival_of e) n p.entry → IsOldOrMove g targets old n e p

-- one more front is settled, for which the table has room: its moves wait beside what waited, and the best goal is still a cheapest one
pub record IsSettled (g : Ground) (targets : List Spot) (old new : Search) (e : Entry) : Type 0 where
  pub room : length old.table < 2 ^ 63
  pub table : new.table ≡ old.table ++ e ∷ []
  pub kept : (p : Pair) → Contains old.queue.pairs p → Contains new.queue.pairs p
  pub each : (p : Pair) → Contains new.queue.pairs p → IsOldOrMove g targets old.queue.pairs (length old.table) e p
  pub edges : (a : Arrival) → IsEdgeMove g (arrival_of e) a → Waits new.queue.pairs a
  pub vias : (k : KindId) (a : Arrival) → IsViaMove g k (arrival_of e) a → Waits new.queue.pairs a
  pub best : IsLeastGoal (IsGoalAmong targets old.table) old.best → IsLeastGoal (IsGoalAmong targets new.table) new.best
  pub pushes : new.queue.pushes ≤ old.queue.pushes + 2 ^ 63
