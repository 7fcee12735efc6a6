use Rattle.zone_fill.proofs.Reached.{pour_points}
use Rattle.zone_fill.proofs.laws.a_pour_has_the_reached_points.Goals as goal

pub returns : goal.returns
returns c = λ b shapes n l zone boxes p pour. pour_points b shapes n l zone boxes pour p
