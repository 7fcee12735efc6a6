use Rattle.geo_rect.proofs.Tests.{Decides-are_too_close, Decides-lies_in}
use Rattle.geo_rect.proofs.decided.tests_are_exact.Goals as goal

pub returns-clause-close : goal.returns-clause-close
returns-clause-close c = Decides-are_too_close

pub returns-clause-inside : goal.returns-clause-inside
returns-clause-inside c = Decides-lies_in
