use Rattle.std.proofs.Common.{◌≡◌, ◌+◌, ◌*◌, ◌^◌, ◌≤◌, drop, All}
use Rattle.geo_rect.specs.declared.ids.NetId.{NetId}
use Rattle.board_model.specs.declared.made.Leg.{Leg}
use Rattle.board_model.specs.Shapes.{place_of, end_of}
use Rattle.board_model.specs.WellFormed.{IsPlace}
use Rattle.plane_set.specs.Standing.{PlaneTable}
use Rattle.route_law.specs.Connections.{cost_of_legs}
use Rattle.strip_moves.specs.Grounds.{ground_of}
use Rattle.walk_check.specs.Corners.{HasKind}
use Rattle.walk_check.proofs.costs.cost_of.Given as goal

-- with the cost of the legs that are left the cost is that of all legs, and those legs lead on from a place
-- to places, by kinds of the board
abbrev pub invariant-loop-leg : goal.invariant-loop-leg
invariant-loop-leg l = record {
  total : (set : PlaneTable) (n : NetId) → l.cost + cost_of_legs (ground_of l.board.parts set n) l.from (drop l.leg-index l.leg-items) ≡ cost_of_legs (ground_of l.board.parts set n) l.conn.start l.conn.legs;
  small : l.cost ≤ 2 ^ 26 * l.leg-index;
  from : IsPlace (place_of l.from);
  places : All (λ (leg : Leg). IsPlace (place_of (end_of leg))) (drop l.leg-index l.leg-items);
  kinds : All (HasKind l.board.parts) (drop l.leg-index l.leg-items);
}
