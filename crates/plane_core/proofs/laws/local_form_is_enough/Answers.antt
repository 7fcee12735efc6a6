use Rattle.plane_core.proofs.Local.{strips_from_local}
use Rattle.plane_core.proofs.laws.local_form_is_enough.Goals as goal

pub returns : goal.returns
returns c = strips_from_local
