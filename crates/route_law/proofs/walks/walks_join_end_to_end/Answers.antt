use Rattle.route_law.proofs.Joining.{walk-append, last_node-append}
use Rattle.route_law.proofs.walks.walks_join_end_to_end.Goals as goal

pub returns-clause-walk : goal.returns-clause-walk
returns-clause-walk c = walk-append

pub returns-clause-end : goal.returns-clause-end
returns-clause-end c = last_node-append
