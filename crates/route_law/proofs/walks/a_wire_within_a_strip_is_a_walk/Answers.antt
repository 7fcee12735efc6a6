use Rattle.route_law.proofs.Wires.{wire_walk, wire_end}
use Rattle.route_law.proofs.walks.a_wire_within_a_strip_is_a_walk.Goals as goal

pub returns-clause-walk : goal.returns-clause-walk
returns-clause-walk c = wire_walk

pub returns-clause-end : goal.returns-clause-end
returns-clause-end c = wire_end
