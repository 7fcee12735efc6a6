use Rattle.std.proofs.Common.{take}
use Rattle.rip_up.proofs.Removing.{StandsSoFar}
use Rattle.rip_up.proofs.removes.remove.Given as goal

-- the shapes so far are gone
abbrev pub invariant-loop-shape : goal.invariant-loop-shape
invariant-loop-shape g l = StandsSoFar l.board.parts l.stay l.gone (take l.shape-index l.gone) l.rested
