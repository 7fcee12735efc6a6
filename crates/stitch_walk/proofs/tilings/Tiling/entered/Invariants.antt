use Rattle.std.proofs.Common.{take}
use Rattle.stitch_walk.specs.Sweeps.{AreEntered}
use Rattle.stitch_walk.proofs.tilings.Tiling.entered.Given as goal

abbrev pub invariant-loop-next : goal.invariant-loop-next
invariant-loop-next g l = AreEntered l.self.store l.area l.fn.id (take l.next-index l.near) l.found
