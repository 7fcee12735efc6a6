use Rattle.route_law.proofs.OnBoards.{passable_nodes, passable_vias}
use Rattle.route_law.proofs.boards.a_ground_is_passable_where_its_board_is.Goals as goal

pub returns-clause-nodes : goal.returns-clause-nodes
returns-clause-nodes c = passable_nodes

pub returns-clause-vias : goal.returns-clause-vias
returns-clause-vias c = passable_vias
