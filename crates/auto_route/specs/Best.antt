-- Which of several rounds is the best.
use Rattle.std.specs.Prelude.{ℕ, ◌≡◌, ◌-◌, ◌<◌, ◌≤◌, ◌⊎◌, List, [], length, Contains, slice_index_or}
use Rattle.board_model.specs.declared.made.Conn.{Conn}
use Rattle.board_parts.specs.declared.parts.BoardParts.{BoardParts}
use Rattle.demo_text.specs.Summary.{cost_in}
use Rattle.route_law.specs.declared.replies.Routed.{Routed}
use Rattle.auto_route.specs.declared.ranks.Rank.{Rank}
use Rattle.auto_route.specs.Rounds.{complete_of, text_order}
use Rattle.auto_route.specs.States.{last_state}

-- how many nets lack no connection in a state
abbrev pub complete_in : BoardParts → List (List Conn) → ℕ
complete_in b lists = length (complete_of b lists (text_order b))

-- how many nets are complete at the end of a round, and what all its connections cost together
abbrev pub rank_of : BoardParts → List Routed → Rank
rank_of b round = record { complete = complete_in b (last_state b round); cost = cost_in round }

-- of the first, more nets are complete, or as many for a smaller cost
abbrev pub IsBetterRank : Rank → Rank → Type 0
IsBetterRank r s = (s.complete < r.complete) ⊎ ((r.complete ≡ s.complete) × (r.cost < s.cost))

-- the first of two rounds is the better one
abbrev pub IsBetter : BoardParts → List Routed → List Routed → Type 0
IsBetter b x y = IsBetterRank (rank_of b x) (rank_of b y)

-- the round of a number, from 1
abbrev pub round_at : List (List Routed) → ℕ → List Routed
round_at rounds n = slice_index_or rounds (n - 1) []

-- no round is better than the one of this number, from 1, and it is better than each before it, so that it is
-- the first to which no round is better
pub record IsBestRound (b : BoardParts) (rounds : List (List Routed)) (n : ℕ) : Type 0 where
  pub from : 1 ≤ n
  pub to : n ≤ length rounds
  pub unbeaten : (round : List Routed) → Contains rounds round → IsBetter b round (round_at rounds n) → ⊥
  pub first : (m : ℕ) → 1 ≤ m → m < n → IsBetter b (round_at rounds n) (round_at rounds m)
