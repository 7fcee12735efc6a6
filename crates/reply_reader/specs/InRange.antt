-- The numbers that a text of replies may hold: coordinates below 2^31, costs and bounds below 2^128, and
-- all others below 2^64.
use Rattle.std.specs.Prelude.{ℕ, ℤ, pos, ◌<◌, ◌^◌, ◌<ℤ◌, length, All, Option, Some, None, ⊤}
use Rattle.geo_rect.specs.declared.ids.Node.{Node}
use Rattle.geo_rect.specs.declared.shapes.Rect.{Rect}
use Rattle.board_model.specs.declared.made.Conn.{Conn}
use Rattle.board_model.specs.declared.made.Leg.{Leg}
use Rattle.board_model.specs.declared.made.Leg.TheVariants.{Wire, Via}
use Rattle.board_model.specs.declared.shapes.Owned.{Owned}
use Rattle.board_model.specs.declared.shapes.Violation.{Violation}
use Rattle.board_model.specs.declared.shapes.Violation.TheVariants.{Close, Outline}
use Rattle.plane_core.specs.declared.strips.Strip.{Strip}
use Rattle.route_law.specs.declared.certs.Cert.{Cert}
use Rattle.route_law.specs.declared.certs.Entry.{Entry}
use Rattle.route_law.specs.declared.certs.Origin.{Origin}
use Rattle.route_law.specs.declared.certs.Origin.TheVariants as origin
use Rattle.route_law.specs.declared.replies.Fail.{Fail}
use Rattle.route_law.specs.declared.replies.Item.{Item}
use Rattle.route_law.specs.declared.replies.Made1.{Made1}
use Rattle.route_law.specs.declared.replies.Reply.{Reply}
use Rattle.route_law.specs.declared.replies.Reply.TheVariants as reply
use Rattle.route_law.specs.declared.replies.Routed.{Routed}

abbrev pub IsCoordinate : ℤ → Type 0
IsCoordinate z = z <ℤ pos (2 ^ 31)

abbrev pub IsCount : ℕ → Type 0
IsCount n = n < 2 ^ 64

abbrev pub IsCost : ℕ → Type 0
IsCost n = n < 2 ^ 128

-- the corners of the rectangle are coordinates
pub record IsAreaInRange (r : Rect) : Type 0 where
  pub left : IsCoordinate r.x0
  pub below : IsCoordinate r.y0
  pub right : IsCoordinate r.x1
  pub above : IsCoordinate r.y1

pub record IsNodeInRange (v : Node) : Type 0 where
  pub across : IsCoordinate v.x
  pub up : IsCoordinate v.y

abbrev pub IsLegInRange : Leg → Type 0
IsLegInRange (Wire v) = IsNodeInRange v
IsLegInRange (Via k v) = IsNodeInRange v

pub record IsConnInRange (c : Conn) : Type 0 where
  pub cost : IsCost c.cost
  pub start : IsNodeInRange c.start
  pub number_of_legs : IsCount (length c.legs)
  pub legs : All IsLegInRange c.legs

abbrev pub IsOriginInRange : Origin → Type 0
IsOriginInRange (origin.Source n) = IsCount n
IsOriginInRange (origin.Step n) = IsCount n
IsOriginInRange (origin.Via n k) = IsCount n

pub record IsEntryInRange (e : Entry) : Type 0 where
  pub source : IsOriginInRange e.origin
  pub strip : IsAreaInRange e.strip
  pub front : IsAreaInRange e.front
  pub cost : IsCost e.cost

abbrev pub IsBoundInRange : Option ℕ → Type 0
IsBoundInRange None = ⊤
IsBoundInRange (Some n) = IsCost n

pub record IsCertInRange (c : Cert) : Type 0 where
  pub bound : IsBoundInRange c.bound
  pub number_of_entries : IsCount (length c.entries)
  pub entries : All IsEntryInRange c.entries

pub record IsMadeInRange (m : Made1) : Type 0 where
  pub number : IsCount m.number
  pub conn : IsConnInRange m.conn
  pub cert : IsCertInRange m.cert

abbrev pub IsRestInRange : Option Fail → Type 0
IsRestInRange None = ⊤
IsRestInRange (Some f) = IsCount f.number × IsCertInRange f.cert

pub record IsRoutedInRange (r : Routed) : Type 0 where
  pub missing : IsCount r.missing
  pub number_of_made : IsCount (length r.made)
  pub made : All IsMadeInRange r.made
  pub rest : IsRestInRange r.none

pub record IsItemInRange (item : Item) : Type 0 where
  pub number : IsCount item.number
  pub conn : IsConnInRange item.conn

pub record IsOwnedInRange (o : Owned) : Type 0 where
  pub area : IsAreaInRange o.area

abbrev pub IsViolationInRange : Violation → Type 0
IsViolationInRange (Close l first second) = IsOwnedInRange first × IsOwnedInRange second
IsViolationInRange (Outline l shape) = IsOwnedInRange shape

pub record IsStripInRange (s : Strip) : Type 0 where
  pub area : IsAreaInRange s.area

-- each number of the reply is within its range
abbrev pub IsInRange : Reply → Type 0
IsInRange (reply.Route r) = IsRoutedInRange r
IsInRange (reply.All rs) = IsCount (length rs) × All IsRoutedInRange rs
IsInRange (reply.Rip n removed) = IsCount removed
IsInRange (reply.Show n needed items) = IsCount needed × IsCount (length items) × All IsItemInRange items
IsInRange (reply.Rules found) = IsCount (length found) × All IsViolationInRange found
IsInRange (reply.Strips l c strips) = IsCount (length strips) × All IsStripInRange strips
