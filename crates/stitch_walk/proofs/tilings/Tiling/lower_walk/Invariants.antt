use Rattle.plane_core.specs.declared.sides.Side.TheVariants.{Below}
use Rattle.stitch_walk.proofs.WalkState.{IsWalking, rows_left}
use Rattle.stitch_walk.proofs.tilings.Tiling.lower_walk.Given as goal

abbrev pub invariant-loop-row : goal.invariant-loop-row
invariant-loop-row g l = IsWalking l.self Below l.fn.id l.edge l.found l.row l.next l.fn.steps l.steps

abbrev pub decreases-loop-row : goal.decreases-loop-row
decreases-loop-row g l = rows_left l.edge.high l.row
