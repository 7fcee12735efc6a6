use Rattle.step_laws.proofs.Broken.{none_routed_stands_in_violations}
use Rattle.step_laws.proofs.violations.what_is_made_breaks_no_rule.Goals as goal

pub returns : goal.returns
returns c = none_routed_stands_in_violations
