use Rattle.route_law.specs.declared.certs.Origin.TheVariants.{Via}
use Rattle.route_law.specs.Moves.{arrival_of}
use Rattle.strip_moves.specs.Gains.{Gains}
use Rattle.strip_moves.specs.Grounds.{ground_of}
use Rattle.strip_moves.proofs.ByLayers.{IsViaMoveBelow}
use Rattle.strip_moves.proofs.moves.push_jumps_by.Given as goal

-- the moves so far have those by vias of the kind to the layers so far
abbrev pub invariant-loop-layer : goal.invariant-loop-layer
invariant-loop-layer g l = Gains l.fn.moves l.moves (Via l.number l.k) (IsViaMoveBelow (ground_of l.board.parts l.planes l.d.net) l.k (arrival_of l.d.from) l.layer)
