-- Replies that can be written and read back: what they name is in the board, their coordinates are not
-- negative, and their numbers agree with one another.
use Rattle.std.specs.Prelude.{ℕ, ℤ, pos, ◌≡◌, ◌<◌, ◌≤◌, ◌≤ℤ◌, List, length, All, Option, Some, None, ⊤}
use Rattle.geo_rect.specs.declared.ids.KindId.{KindId}
use Rattle.geo_rect.specs.declared.ids.Label.{Label}
use Rattle.geo_rect.specs.declared.ids.Label.TheVariants.{Free, One, Many}
use Rattle.geo_rect.specs.declared.ids.LayerId.{LayerId}
use Rattle.geo_rect.specs.declared.ids.NetId.{NetId}
use Rattle.geo_rect.specs.declared.ids.Node.{Node}
use Rattle.geo_rect.specs.declared.shapes.Rect.{Rect}
use Rattle.board_model.specs.declared.made.Conn.{Conn}
use Rattle.board_model.specs.declared.made.Leg.{Leg}
use Rattle.board_model.specs.declared.made.Leg.TheVariants.{Wire, Via}
use Rattle.board_parts.specs.declared.parts.BoardParts.{BoardParts}
use Rattle.board_model.specs.declared.shapes.Owned.{Owned}
use Rattle.board_model.specs.declared.shapes.Violation.{Violation}
use Rattle.board_model.specs.declared.shapes.Violation.TheVariants.{Close, Outline}
use Rattle.board_parts.specs.Owners.{IsOwner}
use Rattle.plane_core.specs.declared.strips.Strip.{Strip}
use Rattle.route_law.specs.declared.certs.Cert.{Cert}
use Rattle.route_law.specs.declared.certs.Entry.{Entry}
use Rattle.route_law.specs.declared.certs.Origin.{Origin}
use Rattle.route_law.specs.declared.certs.Origin.TheVariants as origin
use Rattle.route_law.specs.declared.replies.Fail.{Fail}
use Rattle.route_law.specs.declared.replies.Item.{Item}
use Rattle.route_law.specs.declared.replies.Made1.{Made1}
use Rattle.route_law.specs.declared.replies.Reply.{Reply}
use Rattle.route_law.specs.declared.replies.Reply.TheVariants as reply
use Rattle.route_law.specs.declared.replies.Routed.{Routed}
use Rattle.route_law.specs.Routing.{conns_needed}

abbrev pub IsLayerOf : BoardParts → LayerId → Type 0
IsLayerOf b l = l.0 < length b.layers

abbrev pub IsKindOf : BoardParts → KindId → Type 0
IsKindOf b k = k.0 < length b.kind_names

abbrev pub IsNetOf : BoardParts → NetId → Type 0
IsNetOf b n = n.0 < length b.net_names

-- no coordinate of the rectangle is negative
pub record IsFromZero (r : Rect) : Type 0 where
  pub left : pos 0 ≤ℤ r.x0
  pub below : pos 0 ≤ℤ r.y0

-- the node is on a layer of the board, at a place whose coordinates are not negative
pub record IsRegularNode (b : BoardParts) (v : Node) : Type 0 where
  pub layer : IsLayerOf b v.layer
  pub across : pos 0 ≤ℤ v.x
  pub up : pos 0 ≤ℤ v.y

abbrev pub IsRegularLeg : BoardParts → Leg → Type 0
IsRegularLeg b (Wire w) = IsRegularNode b w
IsRegularLeg b (Via k w) = IsKindOf b k × IsRegularNode b w

pub record IsRegularConn (b : BoardParts) (c : Conn) : Type 0 where
  pub start : IsRegularNode b c.start
  pub legs : All (IsRegularLeg b) c.legs

-- the kind of via by which an entry comes is one of the board's
abbrev pub IsRegularOrigin : BoardParts → Origin → Type 0
IsRegularOrigin b (origin.Source m) = ⊤
IsRegularOrigin b (origin.Step m) = ⊤
IsRegularOrigin b (origin.Via m k) = IsKindOf b k

pub record IsRegularEntry (b : BoardParts) (e : Entry) : Type 0 where
  pub layer : IsLayerOf b e.layer
  pub strip : IsFromZero e.strip
  pub front : IsFromZero e.front
  pub kind : IsRegularOrigin b e.origin

abbrev pub IsRegularCert : BoardParts → Cert → Type 0
IsRegularCert b cert = All (IsRegularEntry b) cert.entries

pub record IsRegularMade (b : BoardParts) (m : Made1) : Type 0 where
  pub conn : IsRegularConn b m.conn
  pub cert : IsRegularCert b m.cert

-- the next connection is named exactly where fewer were made than were missing
abbrev pub IsRegularRest : BoardParts → ℕ → ℕ → Option Fail → Type 0
IsRegularRest b missing made None = made ≡ missing
IsRegularRest b missing made (Some f) = (made < missing) × IsRegularCert b f.cert

pub record IsRegularRouted (b : BoardParts) (r : Routed) : Type 0 where
  pub net : IsNetOf b r.net
  pub made : All (IsRegularMade b) r.made
  pub rest : IsRegularRest b r.missing (length r.made) r.none

abbrev pub IsRegularItem : BoardParts → Item → Type 0
IsRegularItem b item = IsRegularConn b item.conn

pub record IsRegularOwned (b : BoardParts) (o : Owned) : Type 0 where
  pub owner : IsOwner b o.owner
  pub area : IsFromZero o.area

abbrev pub IsRegularViolation : BoardParts → Violation → Type 0
IsRegularViolation b (Close l o q) = IsLayerOf b l × IsRegularOwned b o × IsRegularOwned b q
IsRegularViolation b (Outline l o) = IsLayerOf b l × IsRegularOwned b o

abbrev pub IsRegularLabel : BoardParts → Label → Type 0
IsRegularLabel b Free = ⊤
IsRegularLabel b (One n) = IsNetOf b n
IsRegularLabel b Many = ⊤

pub record IsRegularStrip (b : BoardParts) (s : Strip) : Type 0 where
  pub label : IsRegularLabel b s.label
  pub area : IsFromZero s.area

abbrev pub IsRegular : BoardParts → Reply → Type 0
IsRegular b (reply.Route r) = IsRegularRouted b r
IsRegular b (reply.All rs) = All (IsRegularRouted b) rs
IsRegular b (reply.Rip n k) = IsNetOf b n
IsRegular b (reply.Show n m items) = IsNetOf b n × (m ≡ conns_needed b n) × All (IsRegularItem b) items
IsRegular b (reply.Rules found) = All (IsRegularViolation b) found
IsRegular b (reply.Strips l c strips) = IsLayerOf b l × (c.0 < length b.classes) × All (IsRegularStrip b) strips
