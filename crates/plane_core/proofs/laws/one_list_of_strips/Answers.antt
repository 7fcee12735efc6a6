use Rattle.plane_core.proofs.Listed.{same_strips}
use Rattle.plane_core.proofs.laws.one_list_of_strips.Goals as goal

pub returns : goal.returns
returns c = same_strips
