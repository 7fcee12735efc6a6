use Rattle.zone_fill.proofs.Reached.{one_pour}
use Rattle.zone_fill.proofs.laws.there_is_one_pour.Goals as goal

pub returns : goal.returns
returns c = λ b shapes n l zone xs ys h k. one_pour b shapes n l zone xs ys h k
