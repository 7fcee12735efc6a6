use Rattle.std.proofs.Common.{◌-◌, ◌^◌}
use Rattle.stitch_walk.proofs.SweepState.{HasSwept}
use Rattle.stitch_walk.proofs.tilings.Tiling.sweep.Given as goal

abbrev pub invariant-loop-place : goal.invariant-loop-place
invariant-loop-place g l = HasSwept l.self.store l.area l.found l.place

abbrev pub decreases-loop-place : goal.decreases-loop-place
decreases-loop-place g l = 2 ^ 64 - l.place
