use Rattle.route_law.proofs.Beginning.{nothing-state}
use Rattle.route_law.proofs.runs.nothing_made_is_a_state.Goals as goal

pub returns : goal.returns
returns c b h = nothing-state b
