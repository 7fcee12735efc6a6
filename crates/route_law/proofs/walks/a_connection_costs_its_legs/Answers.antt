use Rattle.route_law.proofs.Joining.{walk_cost-legs}
use Rattle.route_law.proofs.walks.a_connection_costs_its_legs.Goals as goal

pub returns : goal.returns
returns c = λ g n. walk_cost-legs g n.start n.legs
