use Rattle.route_law.proofs.Attained.{bound_is_reached}
use Rattle.route_law.proofs.laws.the_bound_of_a_right_certificate_is_reached.Goals as goal

pub returns : goal.returns
returns c = bound_is_reached
