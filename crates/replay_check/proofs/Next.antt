-- What a right certificate over the planes of a state says of a net's next connection.
use Rattle.std.proofs.Common.{ℕ, ◌≡◌, ◌<◌, List, [], ◌∷◌, length, All, Option, Some, None, refl, sym, ap, subst}
use Rattle.std.specs.Prelude.{IfSome, IfNone}
use Rattle.std.proofs.lemmas.List.Elements.{All-nil, All-cons}
use Rattle.geo_rect.specs.declared.ids.NetId.{NetId}
use Rattle.geo_rect.specs.declared.ids.Node.{Node}
use Rattle.geo_rect.specs.declared.ids.Spot.{Spot}
use Rattle.board_model.specs.declared.made.Conn.{Conn}
use Rattle.board_model.specs.declared.made.Leg.{Leg}
use Rattle.board_parts.specs.declared.parts.BoardParts.{BoardParts}
use Rattle.board_model.specs.Boxes.{source_boxes}
use Rattle.board_parts.specs.Rules.{IsBoard}
use Rattle.board_model.specs.Shapes.{place_of, end_of, state_shapes}
use Rattle.board_model.specs.WellFormed.{IsPlace, AreSteps, IsWellFormed}
use Rattle.cert_check.specs.Verdicts.{IsMatch, IsGood}
use Rattle.plane_set.specs.Standing.{PlaneTable}
use Rattle.route_law.specs.declared.replies.Fail.{Fail}
use Rattle.route_law.specs.declared.replies.Made1.{Made1}
use Rattle.route_law.specs.Boards.{IsGroundOf}
use Rattle.route_law.specs.Ground.{Ground}
use Rattle.route_law.specs.Joins.{IsConnection}
use Rattle.route_law.specs.Routing.{next_number, next_targets, IsNextConnection, HasNoRoute}
use Rattle.route_law.specs.Walks.{IsLowerBound, HasNoJoiningWalk}
use Rattle.route_law.proofs.Law.{bounds_each_walk, leaves_no_walk}
use Rattle.strip_moves.specs.Grounds.{ground_of}
use Rattle.strip_moves.proofs.OfShapes.{ground_of_shapes}
use Rattle.walk_check.specs.Corners.{HasPlaces}
use Rattle.replay_check.specs.States.{IsUnderWay, IsBoardConn}
use Rattle.replay_check.proofs.Alike.{AreAlike, grounds_alike, connection_too, right_too}
use Rattle.replay_check.proofs.OnBoard.{conn_on_board}

-- the corners of well formed steps are places
step_places : (b : BoardParts) (v : Node) (legs : List Leg) → AreSteps b v legs → All (λ (leg : Leg). IsPlace (place_of (end_of leg))) legs
step_places b v [] h = All-nil (λ (leg : Leg). IsPlace (place_of (end_of leg)))
step_places b v (leg ∷ legs) h = All-cons (λ (x : Leg). IsPlace (place_of (end_of x))) leg legs h.0.end.place (step_places b (end_of leg) legs h.1)

has_places : (b : BoardParts) (c : Conn) → IsWellFormed b c → HasPlaces c
has_places b c h = record { start = h.start.place; ends = step_places b c.start c.legs h.steps }

module _ (b : BoardParts) (g : Ground) (sources targets : List Spot) where
  bound_of : (c : Conn) (o : Option ℕ) → IsMatch b g sources targets (Some c) o → o ≡ Some c.cost
  bound_of c None m = absurd m
  bound_of c (Some d) m = let F : ℕ → Option ℕ = λ x. Some x in ap F (sym m.cost)

  connection_of : (c : Conn) (o : Option ℕ) → IsMatch b g sources targets (Some c) o → IsConnection b g c sources targets
  connection_of c None m = absurd m
  connection_of c (Some d) m = m.connection

  no_bound : (o : Option ℕ) → IsMatch b g sources targets None o → o ≡ None
  no_bound None m = refl
  no_bound (Some d) m = absurd m

module _ (b : BoardParts) (board : IsBoard b) (lists : List (List Conn)) (set : PlaneTable) (state : IsUnderWay b lists set) (n : NetId) (known : n.0 < length b.net_names) where
  abbrev g : Ground
  g = ground_of b set n

  abbrev sources : List Spot
  sources = source_boxes b lists n

  abbrev targets : List Spot
  targets = next_targets b lists n

  ground_is : IsGroundOf b (state_shapes b lists) n g
  ground_is = ground_of_shapes b board n known (state_shapes b lists) set state.planes

  alike : (h : Ground) → IsGroundOf b (state_shapes b lists) n h → AreAlike h g
  alike h k = grounds_alike b (state_shapes b lists) n h g k ground_is

  pub next_places : (m : Made1) → IsNextConnection b lists n m → HasPlaces m.conn
  next_places m h = has_places b m.conn h.least.connection.well_formed

  pub next_is_good : (m : Made1) → IsNextConnection b lists n m → IsGood b g sources targets (Some m.conn) m.cert
  next_is_good m h =
      let a = alike h.ground h.is_ground in
      let P : Option ℕ → Type 0 = λ o. IsMatch b g sources targets (Some m.conn) o in
      record {
        right = right_too h.ground g a sources targets m.cert h.right;
        match = subst P (sym h.bound) (record { connection = connection_too h.ground g a b m.conn sources targets h.least.connection; cost = refl });
      }

  pub good_is_next : (m : Made1) → m.number ≡ next_number lists n → IsGood b g sources targets (Some m.conn) m.cert → IsNextConnection b lists n m
  good_is_next m e h =
      let bound = bound_of b g sources targets m.conn m.cert.bound h.match in
      let P : Option ℕ → Type 0 = λ o. IfSome o (λ d. IsLowerBound g sources targets d) in
      record {
        number = e;
        ground = g;
        is_ground = ground_is;
        least = record {
          connection = connection_of b g sources targets m.conn m.cert.bound h.match;
          least = subst P bound (bounds_each_walk g sources targets m.cert ground_is.proper h.right);
        };
        right = h.right;
        bound = bound;
      }

  pub stuck_is_good : (f : Fail) → HasNoRoute b lists n f → IsGood b g sources targets None f.cert
  stuck_is_good f h =
      let a = alike h.ground h.is_ground in
      let P : Option ℕ → Type 0 = λ o. IsMatch b g sources targets None o in
      record {
        right = right_too h.ground g a sources targets f.cert h.right;
        match = subst P (sym h.bound) tt;
      }

  pub good_is_stuck : (f : Fail) → f.number ≡ next_number lists n → IsGood b g sources targets None f.cert → HasNoRoute b lists n f
  good_is_stuck f e h =
      let bound = no_bound b g sources targets f.cert.bound h.match in
      let P : Option ℕ → Type 0 = λ o. IfNone o (HasNoJoiningWalk g sources targets) in
      record {
        number = e;
        ground = g;
        is_ground = ground_is;
        none = subst P bound (leaves_no_walk g sources targets f.cert ground_is.proper h.right);
        right = h.right;
        bound = bound;
      }

  -- the corners of the next connection of a net are on the board
  pub next_on_board : (m : Made1) → IsNextConnection b lists n m → IsBoardConn b m.conn
  next_on_board m h = conn_on_board b set n sources targets m.conn (connection_of b g sources targets m.conn m.cert.bound (next_is_good m h).match)
