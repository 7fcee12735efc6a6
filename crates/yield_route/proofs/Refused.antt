-- A connection that is refused is no walk of its net.
use Rattle.std.proofs.Common.{ℕ, zero, suc, ◌≡◌, List, [], ◌∷◌, Some, subst, arith}
use Rattle.std.specs.Prelude.{slice_get}
use Rattle.std.proofs.lemmas.Option.{same_Some}
use Rattle.geo_rect.specs.declared.ids.NetId.{NetId}
use Rattle.geo_rect.specs.declared.ids.Node.{Node}
use Rattle.geo_rect.specs.declared.ids.Spot.{Spot}
use Rattle.board_parts.specs.declared.parts.BoardParts.{BoardParts}
use Rattle.board_model.specs.declared.made.Conn.{Conn}
use Rattle.board_model.specs.declared.made.Leg.{Leg}
use Rattle.board_model.specs.Boxes.{source_boxes}
use Rattle.board_model.specs.Shapes.{end_of, state_shapes}
use Rattle.board_model.specs.WellFormed.{AreSteps}
use Rattle.plane_set.specs.Standing.{PlaneTable}
use Rattle.route_law.specs.Connections.{steps_of}
use Rattle.route_law.specs.Ground.{Ground}
use Rattle.route_law.specs.Joins.{IsConnection}
use Rattle.route_law.specs.Routing.{next_targets}
use Rattle.route_law.specs.Walks.{HasNode}
use Rattle.route_law.proofs.Law.{first_passable}
use Rattle.step_laws.proofs.Legs.{AreClear, legs_clear}
use Rattle.walk_check.specs.Corners.{corner_after, IsGoodLeg, IsGoodCorner}
use Rattle.route_law.proofs.Legs.{legs_end}
use Rattle.replay_check.proofs.Alike.{grounds_alike, connection_too}
use Rattle.session_core.specs.Adopting.{IsNextWalk, IsRefusedHere, complete, bad}

-- each leg that the net may pass is good
good_at : (b : BoardParts) (g : Ground) (v : Node) (legs : List Leg) (m : ℕ) (leg : Leg) → AreSteps b v legs → AreClear g v legs → slice_get legs m ≡ Some leg → IsGoodLeg b g (corner_after v legs m) leg
good_at b g v [] m leg s h e = cc
good_at b g v (x ∷ xs) zero leg s h e =
    let P : Leg → Type 0 = λ y. IsGoodLeg b g v y in
    subst P (same_Some x leg e) (record { step = s.0; clear = h.0 })
good_at b g v (x ∷ xs) (suc m) leg s h e = good_at b g (end_of x) xs m leg s.1 h.2 e

-- each corner of a walk with its true cost is good
corners_good : (b : BoardParts) (g : Ground) (sources targets : List Spot) (n : NetId) (conn : Conn) (k : ℕ) → IsConnection b g conn sources targets → IsGoodCorner b g conn sources targets k
corners_good b g sources targets n conn k h =
    let steps = h.well_formed.steps in
    let none : PlaneTable = record { wires = []; vias = [] } in
    let ends : Node → Type 0 = λ v. HasNode targets v in
    record {
      at_start = λ e. record { listed = h.walk.starts; passable = first_passable g conn.start (steps_of conn) h.walk.walk };
      of_leg = λ m leg e f. good_at b g conn.start conn.legs m leg steps (legs_clear b g conn.start conn.legs steps h.walk.walk) f;
      at_end = λ e. subst ends (legs_end b conn.start conn.legs steps) h.walk.ends;
      of_cost = λ e. h.cost;
    }

-- where a connection is refused it is no next walk
pub refused_no_walk : (b : BoardParts) (lists : List (List Conn)) (n : NetId) (c : Conn) (k : ℕ) → IsRefusedHere b lists n c k → IsNextWalk b lists n c → ⊥
refused_no_walk b lists n c k (complete few e) walk = absurd (omega (arith, few, walk.lacks))
refused_no_walk b lists n c k (bad lacks g is first) walk =
    let sources = source_boxes b lists n in
    let targets = next_targets b lists n in
    let alike = grounds_alike b (state_shapes b lists) n walk.ground g walk.is_ground is in
    first.bad (corners_good b g sources targets n c k (connection_too walk.ground g alike b c sources targets walk.connection))
