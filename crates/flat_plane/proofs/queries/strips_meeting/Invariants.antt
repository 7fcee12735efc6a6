use Rattle.std.proofs.Common.{take}
use Rattle.plane_core.specs.Choice.{IsChoice}
use Rattle.plane_core.specs.Choice.{Meets}
use Rattle.flat_plane.proofs.queries.strips_meeting.Given as goal

-- the list has those of the strips so far
abbrev pub invariant-loop-strip : goal.invariant-loop-strip
invariant-loop-strip l = IsChoice (take l.strip-index l.strips) (λ s. Meets s.area l.area) l.found
