use Rattle.route_law.proofs.Law.{bounds_each_walk, leaves_no_walk}
use Rattle.route_law.proofs.laws.a_right_certificate_bounds_every_walk.Goals as goal

pub returns-clause-bound : goal.returns-clause-bound
returns-clause-bound c = bounds_each_walk

pub returns-clause-none : goal.returns-clause-none
returns-clause-none c = leaves_no_walk
