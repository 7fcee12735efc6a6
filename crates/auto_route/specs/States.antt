-- The state to which the routing of nets leads.
use Rattle.std.specs.Prelude.{List, [], ◌∷◌}
use Rattle.geo_rect.specs.declared.ids.NetId.{NetId}
use Rattle.board_model.specs.declared.made.Conn.{Conn}
use Rattle.board_parts.specs.declared.parts.BoardParts.{BoardParts}
use Rattle.board_model.specs.Made.{with_conn}
use Rattle.route_law.specs.declared.replies.Made1.{Made1}
use Rattle.route_law.specs.declared.replies.Routed.{Routed}
use Rattle.route_law.specs.Steps.{nothing_made}

-- the state with these connections of a net appended, one after another
abbrev pub with_made : List (List Conn) → NetId → List Made1 → List (List Conn)
with_made lists n [] = lists
with_made lists n (m ∷ ms) = with_made (with_conn lists n m.conn) n ms

-- the state with the connections appended that were made for a net
abbrev pub after_net : List (List Conn) → Routed → List (List Conn)
after_net lists r = with_made lists r.net r.made

-- the state with those appended that were made for each of some nets
abbrev pub after_nets : List (List Conn) → List Routed → List (List Conn)
after_nets lists [] = lists
after_nets lists (r ∷ rs) = after_nets (after_net lists r) rs

-- the state at the end of a round, which starts where nothing is made
abbrev pub last_state : BoardParts → List Routed → List (List Conn)
last_state b round = after_nets (nothing_made b) round
