use Rattle.zone_fill.proofs.Reached.{reached_keeps}
use Rattle.zone_fill.proofs.laws.reached_points_keep_the_rules.Goals as goal

pub returns : goal.returns
returns c = λ b shapes n l zone p h. reached_keeps b shapes n l zone p h
