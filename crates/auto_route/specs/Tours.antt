-- How far a series of rounds has come.
use Rattle.std.specs.Prelude.{◌≡◌, ◌+◌, ◌<◌, ◌⊎◌, List, [], ◌∷◌, length, All}
use Rattle.geo_rect.specs.declared.ids.NetId.{NetId}
use Rattle.board_parts.specs.declared.parts.BoardParts.{BoardParts}
use Rattle.route_law.specs.declared.replies.Routed.{Routed}
use Rattle.route_law.specs.Regular.{IsNetOf, IsRegularRouted}
use Rattle.auto_route.specs.declared.ranks.Rank.{Rank}
use Rattle.auto_route.specs.declared.tours.Tour.{Tour}
use Rattle.auto_route.specs.Best.{IsBestRound, IsBetterRank, rank_of, round_at}
use Rattle.auto_route.specs.Rounds.{AreRounds, next_order, text_order}
use Rattle.auto_route.specs.States.{last_state}

-- the order that rounds leave for the next one, where the first of them had this order
abbrev pub order_after : BoardParts → List NetId → List (List Routed) → List NetId
order_after b order [] = order
order_after b order (round ∷ rounds) = order_after b (next_order b (last_state b round) order) rounds

-- the next round, of this rank, has become the best one, where it is the first or better than the best so far;
-- nothing else has changed
pub data IsRanked (old : Tour) (rank : Rank) (new : Tour) : Type 0 where
  taken : (old.rounds ≡ []) ⊎ IsBetterRank rank old.rank
      → new ≡ record { rounds = old.rounds; order = old.order; best = length old.rounds + 1; rank = rank } → IsRanked old rank new
  left : (old.rounds ≡ [] → ⊥) → (IsBetterRank rank old.rank → ⊥) → new ≡ old → IsRanked old rank new

-- the nets of the board, in some order
pub record IsOrder (b : BoardParts) (order : List NetId) : Type 0 where
  pub known : All (IsNetOf b) order
  pub size : length order ≡ length b.net_names

-- the best round so far, and its rank
pub record IsBestSoFar (b : BoardParts) (tour : Tour) : Type 0 where
  pub best : IsBestRound b tour.rounds tour.best
  pub rank : tour.rank ≡ rank_of b (round_at tour.rounds tour.best)

-- the rounds so far, the order of the next one, and the best one, where there is one already
pub record IsTour (b : BoardParts) (tour : Tour) : Type 0 where
  pub rounds : AreRounds b tour.rounds
  pub regular : All (All (IsRegularRouted b)) tour.rounds
  pub next : tour.order ≡ order_after b (text_order b) tour.rounds
  pub order : IsOrder b tour.order
  pub best : 0 < length tour.rounds → IsBestSoFar b tour
