use Rattle.rule_check.proofs.Exact.{close_exact, outside_exact}
use Rattle.rule_check.proofs.meaning.violations_are_exact.Goals as goal

pub returns-clause-close : goal.returns-clause-close
returns-clause-close c = close_exact

pub returns-clause-outside : goal.returns-clause-outside
returns-clause-outside c = outside_exact
