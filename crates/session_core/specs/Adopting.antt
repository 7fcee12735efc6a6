-- Connections from elsewhere that a session takes up, and which of them it refuses.
use Rattle.std.specs.Prelude.{ℕ, ◌≡◌, ◌<◌, ◌≤◌, List, [], ◌∷◌, length, take, Option, Some, None, slice_get}
use Rattle.geo_rect.specs.declared.ids.NetId.{NetId}
use Rattle.board_model.specs.declared.made.Conn.{Conn}
use Rattle.board_parts.specs.declared.parts.BoardParts.{BoardParts}
use Rattle.board_model.specs.Boxes.{source_boxes}
use Rattle.board_model.specs.Made.{conns_of, with_conn}
use Rattle.board_model.specs.Shapes.{state_shapes}
use Rattle.route_law.specs.Boards.{IsGroundOf}
use Rattle.route_law.specs.Ground.{Ground}
use Rattle.route_law.specs.Joins.{IsConnection}
use Rattle.route_law.specs.Routing.{conns_needed, next_targets}
use Rattle.walk_check.specs.Corners.{IsFirstBadCorner}
use Rattle.session_core.specs.declared.adopts.Adopted.{Adopted}
use Rattle.session_core.specs.declared.adopts.Adopted.TheVariants.{Kept, Refused}

-- the net lacks a connection in this state, and this one is a walk of it to its next pin, with its true cost
pub record IsNextWalk (b : BoardParts) (lists : List (List Conn)) (n : NetId) (c : Conn) : Type 0 where
  pub lacks : length (conns_of lists n) < conns_needed b n
  pub ground : Ground
  pub is_ground : IsGroundOf b (state_shapes b lists) n ground
  pub connection : IsConnection b ground c (source_boxes b lists n) (next_targets b lists n)

-- the connection is refused in this state at this corner: at its start where the net lacks no connection, and
-- else at the first bad corner on its way to the net's next pin
pub data IsRefusedHere (b : BoardParts) (lists : List (List Conn)) (n : NetId) (c : Conn) (k : ℕ) : Type 0 where
  complete : conns_needed b n ≤ length (conns_of lists n) → k ≡ 0 → IsRefusedHere b lists n c k
  bad : length (conns_of lists n) < conns_needed b n → (g : Ground) → IsGroundOf b (state_shapes b lists) n g
      → IsFirstBadCorner b g c (source_boxes b lists n) (next_targets b lists n) k → IsRefusedHere b lists n c k

-- the connection is refused at the corner that is named, and is a next walk where none is
abbrev pub IsVerdict : BoardParts → List (List Conn) → NetId → Conn → Option ℕ → Type 0
IsVerdict b lists n c None = IsNextWalk b lists n c
IsVerdict b lists n c (Some k) = IsRefusedHere b lists n c k

-- the connection was appended where no corner is named, and nothing was done where it is refused
abbrev pub IsTakenOne : BoardParts → List (List Conn) → NetId → Conn → Option ℕ → List (List Conn) → Type 0
IsTakenOne b old n c None new = IsNextWalk b old n c × (new ≡ with_conn old n c)
IsTakenOne b old n c (Some k) new = IsRefusedHere b old n c k × (new ≡ old)

-- each of these is a next walk in the state with those before it appended, and `new` has all
abbrev pub AreWalksInTurn : BoardParts → List (List Conn) → NetId → List Conn → List (List Conn) → Type 0
AreWalksInTurn b old n [] new = new ≡ old
AreWalksInTurn b old n (c ∷ cs) new = IsNextWalk b old n c × AreWalksInTurn b (with_conn old n c) n cs new

-- connection number i of these, from 0, is refused at corner k in the state that has those before it
pub record IsFirstRefused (b : BoardParts) (old : List (List Conn)) (n : NetId) (conns : List Conn) (mid : List (List Conn)) (i k : ℕ) : Type 0 where
  pub conn : Conn
  pub numbered : slice_get conns i ≡ Some conn
  pub before : AreWalksInTurn b old n (take i conns) mid
  pub refused : IsRefusedHere b mid n conn k

-- all were appended, or those before the first that is refused
abbrev pub AreTaken : BoardParts → List (List Conn) → NetId → List Conn → Adopted → List (List Conn) → Type 0
AreTaken b old n conns Kept new = AreWalksInTurn b old n conns new
AreTaken b old n conns (Refused i k) new = IsFirstRefused b old n conns new i k

-- all were appended, or the first that is refused is named and the state is as before
abbrev pub AreAdopted : BoardParts → List (List Conn) → NetId → List Conn → Adopted → List (List Conn) → Type 0
AreAdopted b old n conns Kept new = AreWalksInTurn b old n conns new
AreAdopted b old n conns (Refused i k) new = ((mid : List (List Conn)) × IsFirstRefused b old n conns mid i k) × (new ≡ old)
