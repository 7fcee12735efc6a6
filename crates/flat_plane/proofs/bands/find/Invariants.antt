use Rattle.std.proofs.Common.{drop}
use Rattle.plane_core.specs.Strips.{IsHeld}
use Rattle.flat_plane.proofs.bands.find.Given as goal

-- one of the strips that are left has the point
abbrev pub invariant-loop-strip : goal.invariant-loop-strip
invariant-loop-strip l = IsHeld (drop l.strip-index l.strips) l.p
