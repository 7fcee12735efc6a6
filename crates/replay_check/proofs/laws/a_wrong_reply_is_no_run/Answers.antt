use Rattle.replay_check.proofs.Prefixes.{wrong_is_no_run, one_is_first}
use Rattle.replay_check.proofs.laws.a_wrong_reply_is_no_run.Goals as goal

pub returns-clause-no_run : goal.returns-clause-no_run
returns-clause-no_run c = wrong_is_no_run

pub returns-clause-one : goal.returns-clause-one
returns-clause-one c = one_is_first
