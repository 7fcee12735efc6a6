-- The lists of connections that replies leave, told from the replies alone.
use Rattle.std.specs.Prelude.{ℕ, ◌<◌, List, [], ◌∷◌, All, ⊤}
use Rattle.geo_rect.specs.declared.ids.NetId.{NetId}
use Rattle.board_model.specs.declared.made.Conn.{Conn}
use Rattle.board_model.specs.Made.{with_conn, without_conns}
use Rattle.route_law.specs.declared.replies.Made1.{Made1}
use Rattle.route_law.specs.declared.replies.Reply.{Reply}
use Rattle.route_law.specs.declared.replies.Reply.TheVariants as reply
use Rattle.route_law.specs.declared.replies.Routed.{Routed}

-- the lists with these connections of a net, one after another
abbrev pub with_made : List (List Conn) → NetId → List Made1 → List (List Conn)
with_made lists n [] = lists
with_made lists n (m ∷ ms) = with_made (with_conn lists n m.conn) n ms

-- the lists with the connections that each of these blocks tells of
abbrev pub with_blocks : List (List Conn) → List Routed → List (List Conn)
with_blocks lists [] = lists
with_blocks lists (r ∷ rs) = with_blocks (with_made lists r.net r.made) rs

-- what a reply leaves: the lists with the connections that it tells of, without those of a net that was ripped
-- up, and else as they were
abbrev pub left_by : List (List Conn) → Reply → List (List Conn)
left_by lists (reply.Route r) = with_made lists r.net r.made
left_by lists (reply.All rs) = with_blocks lists rs
left_by lists (reply.Rip n k) = without_conns lists n
left_by lists (reply.Show n m items) = lists
left_by lists (reply.Rules found) = lists
left_by lists (reply.Strips l c strips) = lists

-- what replies leave, one after another
abbrev pub left_by_all : List (List Conn) → List Reply → List (List Conn)
left_by_all lists [] = lists
left_by_all lists (r ∷ rs) = left_by_all (left_by lists r) rs

-- the net of the block is one of so many
abbrev pub IsBlockAmong : ℕ → Routed → Type 0
IsBlockAmong nets r = r.net.0 < nets

-- each net whose list the reply changes is one of so many
abbrev pub IsReplyAmong : ℕ → Reply → Type 0
IsReplyAmong nets (reply.Route r) = IsBlockAmong nets r
IsReplyAmong nets (reply.All rs) = All (IsBlockAmong nets) rs
IsReplyAmong nets (reply.Rip n k) = n.0 < nets
IsReplyAmong nets (reply.Show n m items) = ⊤
IsReplyAmong nets (reply.Rules found) = ⊤
IsReplyAmong nets (reply.Strips l c strips) = ⊤
