use Rattle.std.proofs.Common.{take}
use Rattle.plane_set.specs.Families.{rule_in}
use Rattle.plane_set.proofs.Shutting.{AreShutSoFar}
use Rattle.plane_set.proofs.shuts.shut_areas.Given as goal

-- the areas are those of the keep-outs so far
abbrev pub invariant-loop-keepout : goal.invariant-loop-keepout
invariant-loop-keepout l = AreShutSoFar l.board.parts (rule_in l.board.parts l.family l.row l.c) (take l.keepout-index l.keepout-items) l.areas
