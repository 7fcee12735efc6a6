use Rattle.std.proofs.Common.{take}
use Rattle.plane_core.specs.Choice.{IsChoice}
use Rattle.flat_plane.specs.Draft.{IsAffected}
use Rattle.flat_plane.proofs.outside.untouched.Given as goal

-- the list has those of the strips so far
abbrev pub invariant-loop-strip : goal.invariant-loop-strip
invariant-loop-strip l = IsChoice (take l.strip-index l.strips) (λ s. ¬ IsAffected l.area s.area) l.found
