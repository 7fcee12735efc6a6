use Rattle.std.proofs.Common.{take}
use Rattle.plane_core.specs.Choice.{IsChoice}
use Rattle.plane_core.specs.Sides.{IsBeside}
use Rattle.flat_plane.proofs.queries.strips_beside.Given as goal

-- the list has those of the strips so far
abbrev pub invariant-loop-strip : goal.invariant-loop-strip
invariant-loop-strip l = IsChoice (take l.strip-index l.strips) (λ s. IsBeside l.side l.t s.area) l.found
