use Rattle.plane_core.proofs.Local.{local_from_strips}
use Rattle.plane_core.proofs.laws.strips_have_local_form.Goals as goal

pub returns : goal.returns
returns c = local_from_strips
