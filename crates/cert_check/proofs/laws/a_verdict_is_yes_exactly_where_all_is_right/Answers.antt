use Rattle.cert_check.proofs.Judging.{yes_if_good}
use Rattle.cert_check.proofs.laws.a_verdict_is_yes_exactly_where_all_is_right.Goals as goal

pub returns : goal.returns
returns c = yes_if_good
