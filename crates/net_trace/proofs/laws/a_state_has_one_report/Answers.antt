use Rattle.net_trace.proofs.Once.{report_one, text_one}
use Rattle.net_trace.proofs.laws.a_state_has_one_report.Goals as goal

pub returns-clause-report : goal.returns-clause-report
returns-clause-report c = report_one

pub returns-clause-text : goal.returns-clause-text
returns-clause-text c = text_one
