use Rattle.std.proofs.Common.{take}
use Rattle.zone_fill.specs.Cuts.{AreOpenParts}
use Rattle.zone_fill.proofs.cuts.open_parts.Given as goal

-- the parts of the strips so far are listed
abbrev pub invariant-loop-strip : goal.invariant-loop-strip
invariant-loop-strip l = AreOpenParts l.net l.zone (take l.strip-index l.strips) l.parts
