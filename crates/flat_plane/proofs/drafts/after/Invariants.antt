use Rattle.std.proofs.Common.{take}
use Rattle.plane_core.specs.Choice.{IsChoice}
use Rattle.flat_plane.specs.Draft.{StaysAfter}
use Rattle.flat_plane.proofs.drafts.after.Given as goal

-- the list has those of the strips so far
abbrev pub invariant-loop-strip : goal.invariant-loop-strip
invariant-loop-strip l = IsChoice (take l.strip-index l.draft) (StaysAfter l.whole) l.found
