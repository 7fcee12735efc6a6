use Rattle.plane_core.specs.Sides.{turned, turned_point}
use Rattle.stitch_walk.proofs.Reaching.{IsCrossing}
use Rattle.stitch_walk.proofs.WalkState.{rows_left}
use Rattle.stitch_walk.proofs.tilings.Tiling.go_across.Given as goal

abbrev pub invariant-loop-side : goal.invariant-loop-side
invariant-loop-side g l = IsCrossing l.self l.side l.fn.id l.p l.at l.tile

abbrev pub decreases-loop-side : goal.decreases-loop-side
decreases-loop-side g l = rows_left (turned_point l.side l.p).y (turned l.side l.tile.area).y1
