-- What comes of making the connections that a net lacks. A state is a board and, for each net, the list of
-- its connections that are made.
use Rattle.std.specs.Prelude.{ℕ, ◌≡◌, ◌+◌, ◌-◌, ◌<◌, List, [], ◌∷◌, length, Option, Some, None}
use Rattle.geo_rect.specs.declared.ids.NetId.{NetId}
use Rattle.geo_rect.specs.declared.ids.Spot.{Spot}
use Rattle.board_model.specs.declared.made.Conn.{Conn}
use Rattle.board_parts.specs.declared.parts.BoardParts.{BoardParts}
use Rattle.board_model.specs.Boxes.{source_boxes, target_boxes}
use Rattle.board_parts.specs.Lookup.{pins_of}
use Rattle.board_model.specs.Made.{conns_of, with_conn}
use Rattle.board_model.specs.Shapes.{state_shapes}
use Rattle.route_law.specs.declared.certs.Cert.{Cert}
use Rattle.route_law.specs.declared.replies.Made1.{Made1}
use Rattle.route_law.specs.declared.replies.Fail.{Fail}
use Rattle.route_law.specs.declared.replies.Routed.{Routed}
use Rattle.route_law.specs.Boards.{IsGroundOf}
use Rattle.route_law.specs.Ground.{Ground}
use Rattle.route_law.specs.Joins.{IsLeastConnection}
use Rattle.route_law.specs.Right.{IsRight}
use Rattle.route_law.specs.Walks.{HasNoJoiningWalk}

-- how many connections a net has in all, one less than its pins (and none without a pin)
abbrev pub conns_needed : BoardParts → NetId → ℕ
conns_needed b n = length (pins_of b n) - 1

-- the number of the net's next connection, from 1
abbrev pub next_number : List (List Conn) → NetId → ℕ
next_number lists n = length (conns_of lists n) + 1

-- where the net's next connection ends: its pin of the next connection's number, counted from 0
abbrev pub next_targets : BoardParts → List (List Conn) → NetId → List Spot
next_targets b lists n = target_boxes b n (next_number lists n)

-- the net's next connection in this state: a walk to its next pin than which none is cheaper, with a right
-- certificate of that
pub record IsNextConnection (b : BoardParts) (lists : List (List Conn)) (n : NetId) (m : Made1) : Type 0 where
  pub number : m.number ≡ next_number lists n
  pub ground : Ground
  pub is_ground : IsGroundOf b (state_shapes b lists) n ground
  pub least : IsLeastConnection b ground (source_boxes b lists n) (next_targets b lists n) m.conn
  pub right : IsRight ground (source_boxes b lists n) (next_targets b lists n) m.cert
  pub bound : m.cert.bound ≡ Some m.conn.cost

-- in this state no walk leads to the net's next pin, and a right certificate says so
pub record HasNoRoute (b : BoardParts) (lists : List (List Conn)) (n : NetId) (f : Fail) : Type 0 where
  pub number : f.number ≡ next_number lists n
  pub ground : Ground
  pub is_ground : IsGroundOf b (state_shapes b lists) n ground
  pub none : HasNoJoiningWalk ground (source_boxes b lists n) (next_targets b lists n)
  pub right : IsRight ground (source_boxes b lists n) (next_targets b lists n) f.cert
  pub bound : f.cert.bound ≡ None

-- each of these is the net's next connection in the state with those before it appended, and `new` has all
abbrev pub AreMadeInTurn : BoardParts → List (List Conn) → NetId → List Made1 → List (List Conn) → Type 0
AreMadeInTurn b old n [] new = new ≡ old
AreMadeInTurn b old n (m ∷ ms) new = IsNextConnection b old n m × AreMadeInTurn b (with_conn old n m.conn) n ms new

-- where this number of connections are missing, all of them were made, or the next one has no route
abbrev pub IsDoneOrStuck : BoardParts → List (List Conn) → NetId → ℕ → ℕ → Option Fail → Type 0
IsDoneOrStuck b lists n missing made None = made ≡ missing
IsDoneOrStuck b lists n missing made (Some f) = (made < missing) × HasNoRoute b lists n f

-- the connections that the net lacked in the old state were made, one after another, until none was missing
-- or the next one had no route
pub record IsRouted (b : BoardParts) (old : List (List Conn)) (r : Routed) (new : List (List Conn)) : Type 0 where
  pub net : r.net.0 < length b.net_names
  pub missing : r.missing ≡ conns_needed b r.net - length (conns_of old r.net)
  pub made : AreMadeInTurn b old r.net r.made new
  pub rest : IsDoneOrStuck b new r.net r.missing (length r.made) r.none

-- the net of a number
abbrev pub net_at : ℕ → NetId
net_at n = record { 0 = n }

-- the nets from number n on were routed one after another, each in the state that the one before left
abbrev pub AreRoutedFrom : BoardParts → ℕ → List (List Conn) → List Routed → List (List Conn) → Type 0
AreRoutedFrom b n old [] new = new ≡ old
AreRoutedFrom b n old (r ∷ rs) new = (r.net ≡ net_at n) × (mid : List (List Conn)) × IsRouted b old r mid × AreRoutedFrom b (n + 1) mid rs new
