use Rattle.stitch_walk.proofs.Reaching.{IsGoing, columns_left}
use Rattle.stitch_walk.proofs.tilings.Tiling.go_straight.Given as goal

abbrev pub invariant-loop-side : goal.invariant-loop-side
invariant-loop-side g l = IsGoing l.self.store l.side l.fn.id l.p l.at l.tile

abbrev pub decreases-loop-side : goal.decreases-loop-side
decreases-loop-side g l = columns_left l.side l.tile.area l.p
