use Rattle.route_law.proofs.Running.{made-next, routed-next, run-append, run-next}
use Rattle.route_law.proofs.runs.runs_go_on.Goals as goal

pub returns-clause-connections : goal.returns-clause-connections
returns-clause-connections c = made-next

pub returns-clause-nets : goal.returns-clause-nets
returns-clause-nets c = routed-next

pub returns-clause-commands : goal.returns-clause-commands
returns-clause-commands c = run-append

pub returns-clause-command : goal.returns-clause-command
returns-clause-command c = run-next
