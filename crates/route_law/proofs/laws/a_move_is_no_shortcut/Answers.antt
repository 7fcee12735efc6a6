use Rattle.route_law.proofs.Lows.{moved_low}
use Rattle.route_law.proofs.laws.a_move_is_no_shortcut.Goals as goal

pub returns : goal.returns
returns c = moved_low
