-- Rounds: in each, every net is routed once, in an order that the round before gives.
use Rattle.std.specs.Prelude.{◌≡◌, ◌∷◌, ◌++◌, Bool, not, nat_le, List, [], length, map, filter, ⊤, IsPermutation}
use Rattle.std.specs.List.{range_with_len}
use Rattle.geo_rect.specs.declared.ids.NetId.{NetId}
use Rattle.board_model.specs.declared.made.Conn.{Conn}
use Rattle.board_parts.specs.declared.parts.BoardParts.{BoardParts}
use Rattle.board_model.specs.Made.{conns_of}
use Rattle.route_law.specs.declared.replies.Routed.{Routed}
use Rattle.route_law.specs.Routing.{IsRouted, conns_needed, net_at}
use Rattle.route_law.specs.Steps.{nothing_made}
use Rattle.auto_route.specs.States.{after_net, last_state}

-- the nets of a board, in the order of the text
abbrev pub text_order : BoardParts → List NetId
text_order b = map net_at (range_with_len 0 (length b.net_names))

-- whether a net lacks no connection in a state
abbrev pub is_complete : BoardParts → List (List Conn) → NetId → Bool
is_complete b lists n = nat_le (conns_needed b n) (length (conns_of lists n))

-- the nets of an order that lack a connection in a state
abbrev pub incomplete_of : BoardParts → List (List Conn) → List NetId → List NetId
incomplete_of b lists order = filter (λ (n : NetId). not (is_complete b lists n)) order

-- those that lack none
abbrev pub complete_of : BoardParts → List (List Conn) → List NetId → List NetId
complete_of b lists order = filter (is_complete b lists) order

-- the order after a round that led to a state: first the nets that lack a connection in it, then the others,
-- each part in the order that it had
abbrev pub next_order : BoardParts → List (List Conn) → List NetId → List NetId
next_order b lists order = incomplete_of b lists order ++ complete_of b lists order

-- each of these is what comes of routing its net, in the state to which those before it lead
abbrev pub AreRouted : BoardParts → List (List Conn) → List Routed → Type 0
AreRouted b lists [] = ⊤
AreRouted b lists (r ∷ rs) = IsRouted b lists r (after_net lists r) × AreRouted b (after_net lists r) rs

-- the nets that were routed, in their order
abbrev pub order_of : List Routed → List NetId
order_of round = map (λ (r : Routed). r.net) round

-- each net of the order was routed once, in this order, from the state in which nothing is made
pub record IsRound (b : BoardParts) (order : List NetId) (round : List Routed) : Type 0 where
  pub nets : order_of round ≡ order
  pub routed : AreRouted b (nothing_made b) round

-- these are rounds, the first in this order, and each other in the order that the one before it gives
abbrev pub AreRoundsFrom : BoardParts → List NetId → List (List Routed) → Type 0
AreRoundsFrom b order [] = ⊤
AreRoundsFrom b order (round ∷ rounds) = IsRound b order round × AreRoundsFrom b (next_order b (last_state b round) order) rounds

-- these are rounds, of which the first has the nets in the order of the text
abbrev pub AreRounds : BoardParts → List (List Routed) → Type 0
AreRounds b rounds = AreRoundsFrom b (text_order b) rounds

-- the nets that were routed are the nets of the board, each once, in some order
abbrev pub RoutesEachNetOnce : BoardParts → List Routed → Type 0
RoutesEachNetOnce b round = IsPermutation (text_order b) (order_of round)
