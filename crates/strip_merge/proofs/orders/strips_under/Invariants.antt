use Rattle.std.proofs.Common.{take}
use Rattle.strip_merge.specs.StripsOf.{AreUnder}
use Rattle.strip_merge.proofs.orders.strips_under.Given as goal

-- the pieces under the numbers so far are found
abbrev pub invariant-loop-id : goal.invariant-loop-id
invariant-loop-id g l = AreUnder l.tiling.store (take l.id-index l.ids) l.found
