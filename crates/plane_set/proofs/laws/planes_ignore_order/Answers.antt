use Rattle.plane_set.proofs.Standing.{stands_for_members}
use Rattle.plane_set.proofs.laws.planes_ignore_order.Goals as goal

pub returns : goal.returns
returns c = stands_for_members
