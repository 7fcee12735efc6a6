use Rattle.auto_route.proofs.Permuting.{each_net_once}
use Rattle.auto_route.proofs.laws.each_round_routes_every_net_once.Goals as goal

pub returns : goal.returns
returns c = each_net_once
