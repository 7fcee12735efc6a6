use Rattle.route_law.proofs.Determined.{one_start, one_edge_move, one_via_move}
use Rattle.route_law.proofs.moves.moves_are_determined_by_where_they_go.Goals as goal

pub returns-clause-start : goal.returns-clause-start
returns-clause-start c = one_start

pub returns-clause-edge : goal.returns-clause-edge
returns-clause-edge c = one_edge_move

pub returns-clause-via : goal.returns-clause-via
returns-clause-via c = one_via_move
