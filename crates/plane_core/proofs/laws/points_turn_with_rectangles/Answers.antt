use Rattle.plane_core.proofs.Turns.{points_turn}
use Rattle.plane_core.proofs.laws.points_turn_with_rectangles.Goals as goal

pub returns : goal.returns
returns c = points_turn
