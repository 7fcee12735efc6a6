use Rattle.route_law.proofs.Beside.{via_strip_meets, end_strip_meets}
use Rattle.route_law.proofs.moves.via_moves_go_where_strips_meet.Goals as goal

pub returns-clause-through : goal.returns-clause-through
returns-clause-through c = via_strip_meets

pub returns-clause-onto : goal.returns-clause-onto
returns-clause-onto c = end_strip_meets
