use Rattle.plane_core.proofs.Whole.{whole_choice}
use Rattle.plane_core.proofs.laws.all_strips_meet_the_domain.Goals as goal

pub returns : goal.returns
returns c = whole_choice
