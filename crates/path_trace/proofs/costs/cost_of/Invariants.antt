use Rattle.std.proofs.Common.{◌≡◌, ◌+◌, ◌*◌, ◌^◌, ◌≤◌, drop}
use Rattle.geo_rect.specs.declared.ids.NetId.{NetId}
use Rattle.board_model.specs.Shapes.{place_of}
use Rattle.board_model.specs.WellFormed.{IsPlace, AreSteps}
use Rattle.plane_set.specs.Standing.{PlaneTable}
use Rattle.route_law.specs.Connections.{cost_of_legs}
use Rattle.strip_moves.specs.Grounds.{ground_of}
use Rattle.path_trace.proofs.costs.cost_of.Given as goal

-- with the cost of the legs that are left the cost is that of all legs, and those legs are steps that lead
-- on from a place
abbrev pub invariant-loop-leg : goal.invariant-loop-leg
invariant-loop-leg l = record {
  total : (set : PlaneTable) (n : NetId) → l.cost + cost_of_legs (ground_of l.board.parts set n) l.from (drop l.leg-index l.legs) ≡ cost_of_legs (ground_of l.board.parts set n) l.fn.start l.legs;
  small : l.cost ≤ 2 ^ 26 * l.leg-index;
  from : IsPlace (place_of l.from);
  steps : AreSteps l.board.parts l.from (drop l.leg-index l.legs);
}
