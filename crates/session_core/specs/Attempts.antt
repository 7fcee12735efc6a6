-- What comes of the search for a net's next connection, and of a turn in which it is to be made.
use Rattle.std.specs.Prelude.{ℕ, ◌≡◌, List, [], ◌∷◌, ◌++◌, Option, Some, None}
use Rattle.geo_rect.specs.declared.ids.NetId.{NetId}
use Rattle.geo_rect.specs.declared.ids.Spot.{Spot}
use Rattle.board_model.specs.declared.made.Conn.{Conn}
use Rattle.board_parts.specs.declared.parts.BoardParts.{BoardParts}
use Rattle.board_model.specs.Made.{with_conn}
use Rattle.route_law.specs.declared.replies.Made1.{Made1}
use Rattle.route_law.specs.declared.replies.Fail.{Fail}
use Rattle.route_law.specs.Ground.{Ground}
use Rattle.route_law.specs.Joins.{IsLeastConnection}
use Rattle.route_law.specs.Right.{IsRight}
use Rattle.route_law.specs.Routing.{IsNextConnection, HasNoRoute}
use Rattle.route_law.specs.Walks.{HasNoJoiningWalk}
use Rattle.session_core.specs.declared.attempts.Attempt.{Attempt}
use Rattle.session_core.specs.declared.attempts.Attempt.TheVariants.{Joined, Stuck}

-- the connection of this number is a walk from a source box to a target box than which none is cheaper, with
-- a right certificate of that
pub record IsJoinedOn (b : BoardParts) (g : Ground) (sources targets : List Spot) (n : ℕ) (m : Made1) : Type 0 where
  pub same_number : m.number ≡ n
  pub least : IsLeastConnection b g sources targets m.conn
  pub right : IsRight g sources targets m.cert
  pub bound : m.cert.bound ≡ Some m.conn.cost

-- for the connection of this number no walk leads from a source box to a target box, with a right certificate
-- of that
pub record IsStuckOn (g : Ground) (sources targets : List Spot) (n : ℕ) (f : Fail) : Type 0 where
  pub same_number : f.number ≡ n
  pub none : HasNoJoiningWalk g sources targets
  pub right : IsRight g sources targets f.cert
  pub bound : f.cert.bound ≡ None

-- a connection on this ground, or that there is none
abbrev pub IsAttemptOn : BoardParts → Ground → List Spot → List Spot → ℕ → Attempt → Type 0
IsAttemptOn b g sources targets n (Joined m) = IsJoinedOn b g sources targets n m
IsAttemptOn b g sources targets n (Stuck f) = IsStuckOn g sources targets n f

-- the net's next connection in this state, or that it has no route
abbrev pub IsAttempt : BoardParts → List (List Conn) → NetId → Attempt → Type 0
IsAttempt b lists n (Joined m) = IsNextConnection b lists n m
IsAttempt b lists n (Stuck f) = HasNoRoute b lists n f

-- the net's next connection was made, and is the last of the list
pub record IsOneMore (b : BoardParts) (n : NetId) (old : List (List Conn)) (before : List Made1) (new : List (List Conn)) (after : List Made1) : Type 0 where
  pub made : Made1
  pub next : IsNextConnection b old n made
  pub appended : new ≡ with_conn old n made.conn
  pub listed : after ≡ before ++ made ∷ []

-- the net's next connection has no route, and nothing was made
pub record IsNoMore (b : BoardParts) (n : NetId) (old : List (List Conn)) (before : List Made1) (f : Fail) (new : List (List Conn)) (after : List Made1) : Type 0 where
  pub stuck : HasNoRoute b old n f
  pub kept : new ≡ old
  pub same_list : after ≡ before

-- the net's next connection was made, where none is named that has no route
abbrev pub IsTurn : BoardParts → NetId → List (List Conn) → List Made1 → Option Fail → List (List Conn) → List Made1 → Type 0
IsTurn b n old before None new after = IsOneMore b n old before new after
IsTurn b n old before (Some f) new after = IsNoMore b n old before f new after
