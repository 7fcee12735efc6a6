use Rattle.step_laws.proofs.Regular.{step_regular}
use Rattle.step_laws.proofs.replies.replies_are_regular.Goals as goal

pub returns : goal.returns
returns c = step_regular
