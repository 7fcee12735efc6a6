-- The text of replies: lines that end with one line feed, words with one space between them, numbers in
-- decimal, and names as the board has them.
use Rattle.std.specs.Prelude.{ℕ, [], ◌++◌, List, length, Bool, true, false, Option, Some, None, codes, decimal}
use Rattle.std.specs.List.{flat_map}
use Rattle.std.specs.Fmt.{signed_decimal}
use Rattle.geo_rect.specs.declared.ids.ClassId.{ClassId}
use Rattle.geo_rect.specs.declared.ids.KindId.{KindId}
use Rattle.geo_rect.specs.declared.ids.Label.{Label}
use Rattle.geo_rect.specs.declared.ids.Label.TheVariants.{Free, One, Many}
use Rattle.geo_rect.specs.declared.ids.LayerId.{LayerId}
use Rattle.geo_rect.specs.declared.ids.NetId.{NetId}
use Rattle.geo_rect.specs.declared.ids.Node.{Node}
use Rattle.geo_rect.specs.declared.shapes.Rect.{Rect}
use Rattle.board_model.specs.declared.made.Conn.{Conn}
use Rattle.board_model.specs.declared.made.Leg.{Leg}
use Rattle.board_model.specs.declared.made.Leg.TheVariants as leg
use Rattle.board_parts.specs.declared.parts.BoardParts.{BoardParts}
use Rattle.board_model.specs.declared.shapes.Owned.{Owned}
use Rattle.board_model.specs.declared.shapes.Violation.{Violation}
use Rattle.board_model.specs.declared.shapes.Violation.TheVariants.{Close, Outline}
use Rattle.board_parts.specs.Lookup.{layer_name, class_name, kind_name, net_name}
use Rattle.plane_core.specs.declared.strips.Strip.{Strip}
use Rattle.route_law.specs.declared.certs.Cert.{Cert}
use Rattle.route_law.specs.declared.certs.Entry.{Entry}
use Rattle.route_law.specs.declared.certs.Origin.{Origin}
use Rattle.route_law.specs.declared.certs.Origin.TheVariants as origin
use Rattle.route_law.specs.declared.replies.Fail.{Fail}
use Rattle.route_law.specs.declared.replies.Item.{Item}
use Rattle.route_law.specs.declared.replies.Made1.{Made1}
use Rattle.route_law.specs.declared.replies.Reply.{Reply}
use Rattle.route_law.specs.declared.replies.Reply.TheVariants as reply
use Rattle.route_law.specs.declared.replies.Routed.{Routed}

-- the four numbers of a rectangle, each behind a space
unfoldable pub area_text : Rect → List ℕ
area_text r =
    codes " " ++ signed_decimal r.x0 ++ codes " " ++ signed_decimal r.y0 ++ codes " " ++ signed_decimal r.x1 ++ codes " " ++ signed_decimal r.y1

-- the two numbers of a node and its layer, each behind a space
unfoldable pub node_text : BoardParts → Node → List ℕ
node_text b v =
    codes " " ++ signed_decimal v.x ++ codes " " ++ signed_decimal v.y ++ codes " " ++ layer_name b v.layer

-- the first line of a connection: its number, its cost, and how many legs it has
unfoldable pub conn_line : ℕ → ℕ → ℕ → List ℕ
conn_line number cost legs =
    codes "conn " ++ decimal number ++ codes " " ++ decimal cost ++ codes " " ++ decimal legs ++ codes "\n"

-- the line of the node in which a connection starts
unfoldable pub at_line : BoardParts → Node → List ℕ
at_line b v = codes "at" ++ node_text b v ++ codes "\n"

-- the line of a wire, by the node in which it ends
unfoldable pub wire_line : BoardParts → Node → List ℕ
wire_line b v = codes "to" ++ node_text b v ++ codes "\n"

-- the line of a via, by its kind and the node in which it ends
unfoldable pub via_line : BoardParts → KindId → Node → List ℕ
via_line b k v = codes "via " ++ kind_name b k ++ node_text b v ++ codes "\n"

-- a line for a leg
abbrev pub leg_text : BoardParts → Leg → List ℕ
leg_text b (leg.Wire v) = wire_line b v
leg_text b (leg.Via k v) = via_line b k v

-- a connection of this number: its first line, where it starts, and a line for each leg
unfoldable pub conn_text : BoardParts → ℕ → Conn → List ℕ
conn_text b number c =
    conn_line number c.cost (length c.legs) ++ at_line b c.start ++ flat_map (leg_text b) c.legs

-- a bound, or a dash where there is none
abbrev pub bound_text : Option ℕ → List ℕ
bound_text None = codes "-"
bound_text (Some n) = decimal n

-- the first line of a certificate: its bound, and how many entries it has
unfoldable pub cert_line : Option ℕ → ℕ → List ℕ
cert_line bound entries = codes "cert " ++ bound_text bound ++ codes " " ++ decimal entries ++ codes "\n"

-- where an entry comes from: a source box, or an earlier entry by an edge or by a via of a kind
abbrev pub origin_text : BoardParts → Origin → List ℕ
origin_text b (origin.Source box) = codes "src " ++ decimal box
origin_text b (origin.Step entry) = codes "step " ++ decimal entry
origin_text b (origin.Via entry k) = codes "via " ++ decimal entry ++ codes " " ++ kind_name b k

-- a line for an entry: where it comes from, its layer, its strip, its front, and its cost
unfoldable pub entry_text : BoardParts → Entry → List ℕ
entry_text b e =
    origin_text b e.origin ++ codes " " ++ layer_name b e.layer ++ area_text e.strip ++ area_text e.front ++ codes " " ++ decimal e.cost ++ codes "\n"

-- a certificate: its first line, and a line for each entry
unfoldable pub cert_text : BoardParts → Cert → List ℕ
cert_text b c = cert_line c.bound (length c.entries) ++ flat_map (entry_text b) c.entries

-- a certificate, which a quiet text leaves out
abbrev pub shown_cert_text : BoardParts → Bool → Cert → List ℕ
shown_cert_text b true c = []
shown_cert_text b false c = cert_text b c

-- a connection that was made, and its certificate
unfoldable pub made_text : BoardParts → Bool → Made1 → List ℕ
made_text b quiet m = conn_text b m.number m.conn ++ shown_cert_text b quiet m.cert

-- the line of the connection that cannot be made, by its number
unfoldable pub none_line : ℕ → List ℕ
none_line number = codes "none " ++ decimal number ++ codes "\n"

-- the connection that cannot be made, if there is one, and its certificate
abbrev pub rest_text : BoardParts → Bool → Option Fail → List ℕ
rest_text b quiet None = []
rest_text b quiet (Some f) = none_line f.number ++ shown_cert_text b quiet f.cert

-- the first line of what came of a net: how many connections were made, and how many it lacked
unfoldable pub route_line : BoardParts → NetId → ℕ → ℕ → List ℕ
route_line b n made missing =
    codes "route " ++ net_name b n ++ codes " made " ++ decimal made ++ codes " of " ++ decimal missing ++ codes "\n"

-- what came of a net: its first line, the connections that were made, and the one that cannot be made
unfoldable pub routed_text : BoardParts → Bool → Routed → List ℕ
routed_text b quiet r =
    route_line b r.net (length r.made) r.missing ++ flat_map (made_text b quiet) r.made ++ rest_text b quiet r.none

-- the first line of the reply to `all`: how many nets there are
unfoldable pub all_line : ℕ → List ℕ
all_line nets = codes "all " ++ decimal nets ++ codes "\n"

-- the line of the reply to `rip`: how many connections of the net were removed
unfoldable pub rip_line : BoardParts → NetId → ℕ → List ℕ
rip_line b n removed = codes "rip " ++ net_name b n ++ codes " removed " ++ decimal removed ++ codes "\n"

-- the first line of the reply to `show`: how many connections the net has, and how many when none is missing
unfoldable pub show_line : BoardParts → NetId → ℕ → ℕ → List ℕ
show_line b n conns needed =
    codes "show " ++ net_name b n ++ codes " " ++ decimal conns ++ codes " of " ++ decimal needed ++ codes "\n"

-- a connection as `show` lists it
abbrev pub item_text : BoardParts → Item → List ℕ
item_text b item = conn_text b item.number item.conn

-- the first line of the reply to `rules`: how many violations there are
unfoldable pub rules_line : ℕ → List ℕ
rules_line violations = codes "rules " ++ decimal violations ++ codes "\n"

-- whose a shape is: a blockage, or a net by its name
abbrev pub owner_text : BoardParts → Option NetId → List ℕ
owner_text b None = codes "block"
owner_text b (Some n) = codes "net " ++ net_name b n

-- a shape: whose it is, and where
unfoldable pub owned_text : BoardParts → Owned → List ℕ
owned_text b o = owner_text b o.owner ++ area_text o.area

-- the line of two shapes that are too close
unfoldable pub close_line : BoardParts → LayerId → Owned → Owned → List ℕ
close_line b l first second =
    codes "close " ++ layer_name b l ++ codes " " ++ owned_text b first ++ codes " " ++ owned_text b second ++ codes "\n"

-- the line of a shape that does not lie in the board
unfoldable pub outline_line : BoardParts → LayerId → Owned → List ℕ
outline_line b l shape = codes "outline " ++ layer_name b l ++ codes " " ++ owned_text b shape ++ codes "\n"

-- a line for a violation
abbrev pub violation_text : BoardParts → Violation → List ℕ
violation_text b (Close l first second) = close_line b l first second
violation_text b (Outline l shape) = outline_line b l shape

-- the first line of the reply to `strips`: the layer, the class, and how many strips there are
unfoldable pub strips_line : BoardParts → LayerId → ClassId → ℕ → List ℕ
strips_line b l c strips =
    codes "strips " ++ layer_name b l ++ codes " " ++ class_name b c ++ codes " " ++ decimal strips ++ codes "\n"

-- for whom points are free: for all nets, for one by its name, or for none
abbrev pub label_text : BoardParts → Label → List ℕ
label_text b Free = codes "free"
label_text b (One n) = codes "one " ++ net_name b n
label_text b Many = codes "many"

-- a line for a strip: its label, and where it is
unfoldable pub strip_text : BoardParts → Strip → List ℕ
strip_text b s = label_text b s.label ++ area_text s.area ++ codes "\n"

-- the text of a reply; a quiet one is the same without the certificates
abbrev pub reply_text : BoardParts → Bool → Reply → List ℕ
reply_text b quiet (reply.Route routed) = routed_text b quiet routed
reply_text b quiet (reply.All nets) = all_line (length nets) ++ flat_map (routed_text b quiet) nets
reply_text b quiet (reply.Rip n removed) = rip_line b n removed
reply_text b quiet (reply.Show n needed items) = show_line b n (length items) needed ++ flat_map (item_text b) items
reply_text b quiet (reply.Rules found) = rules_line (length found) ++ flat_map (violation_text b) found
reply_text b quiet (reply.Strips l c strips) = strips_line b l c (length strips) ++ flat_map (strip_text b) strips

-- the text of replies, one after the other
abbrev pub replies_text : BoardParts → Bool → List Reply → List ℕ
replies_text b quiet replies = flat_map (reply_text b quiet) replies
