use Rattle.step_laws.proofs.Keeping.{next_state, removed_state, step_state, run_state}
use Rattle.step_laws.proofs.states.steps_keep_the_rules.Goals as goal

pub returns-clause-next : goal.returns-clause-next
returns-clause-next c = next_state

pub returns-clause-removed : goal.returns-clause-removed
returns-clause-removed c = removed_state

pub returns-clause-step : goal.returns-clause-step
returns-clause-step c = step_state

pub returns-clause-run : goal.returns-clause-run
returns-clause-run c = run_state
