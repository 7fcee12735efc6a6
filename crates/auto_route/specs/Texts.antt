-- The text of rounds of routing.
use Rattle.std.specs.Prelude.{ℕ, ◌+◌, ◌++◌, List, [], ◌∷◌, length, true, codes, decimal}
use Rattle.std.specs.List.{flat_map}
use Rattle.geo_rect.specs.declared.ids.NetId.{NetId}
use Rattle.board_model.specs.declared.made.Conn.{Conn}
use Rattle.board_parts.specs.declared.parts.BoardParts.{BoardParts}
use Rattle.board_model.specs.Made.{conns_of}
use Rattle.demo_text.specs.Summary.{cost_in}
use Rattle.reply_text.specs.Texts.{reply_text, routed_text}
use Rattle.route_law.specs.declared.replies.Reply.{Reply}
use Rattle.route_law.specs.declared.replies.Reply.TheVariants.{Show}
use Rattle.route_law.specs.declared.replies.Routed.{Routed}
use Rattle.route_law.specs.Routing.{conns_needed}
use Rattle.route_law.specs.Steps.{items_from}
use Rattle.auto_route.specs.declared.told.Auto.{Auto}
use Rattle.auto_route.specs.Best.{complete_in, round_at}
use Rattle.auto_route.specs.Rounds.{text_order}

-- the line that begins a round, by its number
unfoldable pub round_line : ℕ → List ℕ
round_line number = codes "round " ++ decimal number ++ codes "\n"

-- a round of this number: its line, and what came of each net, without certificates
abbrev pub round_text : BoardParts → ℕ → List Routed → List ℕ
round_text b number round = round_line number ++ flat_map (routed_text b true) round

-- rounds, of which the first has this number
abbrev pub rounds_text : BoardParts → ℕ → List (List Routed) → List ℕ
rounds_text b number [] = []
rounds_text b number (round ∷ rounds) = round_text b number round ++ rounds_text b (number + 1) rounds

-- the line on the best round: its number, how many nets are complete, of how many, and what the connections cost
unfoldable pub best_line : ℕ → ℕ → ℕ → ℕ → List ℕ
best_line number complete nets cost =
    codes "best " ++ decimal number ++ codes " made " ++ decimal complete ++ codes " of " ++ decimal nets ++ codes " cost " ++ decimal cost ++ codes "\n"

-- the reply to `show` for a net in a state
abbrev pub show_of : BoardParts → List (List Conn) → NetId → Reply
show_of b lists n = Show n (conns_needed b n) (items_from 1 (conns_of lists n))

-- the text of that reply for each net, in the order of the text
abbrev pub shows_text : BoardParts → List (List Conn) → List ℕ
shows_text b lists = flat_map (λ (n : NetId). reply_text b true (show_of b lists n)) (text_order b)

-- the rounds, the line on the best one, and what the state that is kept shows of each net
abbrev pub auto_text : BoardParts → List (List Conn) → Auto → List ℕ
auto_text b lists told =
    rounds_text b 1 told.rounds
    ++ best_line told.best (complete_in b lists) (length b.net_names) (cost_in (round_at told.rounds told.best))
    ++ shows_text b lists
