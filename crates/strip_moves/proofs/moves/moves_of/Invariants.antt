use Rattle.std.proofs.Common.{◌<◌, All}
use Rattle.geo_rect.specs.declared.ids.KindId.{KindId}
use Rattle.route_law.specs.declared.certs.Origin.TheVariants.{Step, Via}
use Rattle.route_law.specs.Moves.{Arrival, arrival_of, IsEdgeMove, IsViaMove}
use Rattle.strip_moves.specs.Grounds.{ground_of}
use Rattle.strip_moves.specs.Listed.{HasArrival, IsMoveFrom}
use Rattle.strip_moves.proofs.moves.moves_of.Given as goal

-- the moves by edges are there, and those by the kinds so far
abbrev pub invariant-loop-kind : goal.invariant-loop-kind
invariant-loop-kind g l = record {
  each : All (IsMoveFrom (ground_of l.board.parts l.planes l.fn.net) (arrival_of l.fn.from) l.number) l.moves;
  edges : (a : Arrival) → IsEdgeMove (ground_of l.board.parts l.planes l.fn.net) (arrival_of l.fn.from) a → HasArrival l.moves (Step l.number) a;
  vias : (k : KindId) (a : Arrival) → k.0 < l.kind → IsViaMove (ground_of l.board.parts l.planes l.fn.net) k (arrival_of l.fn.from) a → HasArrival l.moves (Via l.number k) a;
}
