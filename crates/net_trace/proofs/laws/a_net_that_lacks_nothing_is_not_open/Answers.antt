use Rattle.net_trace.proofs.Complete.{run_joined, joined_not_open}
use Rattle.net_trace.proofs.laws.a_net_that_lacks_nothing_is_not_open.Goals as goal

pub returns-clause-joined : goal.returns-clause-joined
returns-clause-joined c = run_joined

pub returns-clause-not_open : goal.returns-clause-not_open
returns-clause-not_open c = λ b cs rs lists n traced o board run all report listed.
    joined_not_open b lists n (run_joined b cs rs lists n board run all) traced o report listed
