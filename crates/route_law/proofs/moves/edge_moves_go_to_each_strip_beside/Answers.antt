use Rattle.route_law.proofs.Beside.{edge_move_side, side_edge_move}
use Rattle.route_law.proofs.moves.edge_moves_go_to_each_strip_beside.Goals as goal

pub returns-clause-beside : goal.returns-clause-beside
returns-clause-beside c = edge_move_side

pub returns-clause-each : goal.returns-clause-each
returns-clause-each c = side_edge_move
