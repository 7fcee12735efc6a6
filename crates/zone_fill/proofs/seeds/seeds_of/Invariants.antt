use Rattle.std.proofs.Common.{take}
use Rattle.zone_fill.specs.Seeds.{AreSeeds}
use Rattle.zone_fill.proofs.seeds.seeds_of.Given as goal

-- the seeds among the parts so far are told
abbrev pub invariant-loop-part : goal.invariant-loop-part
invariant-loop-part l = AreSeeds l.shapes l.net l.layer (take l.part-index l.parts) l.seeds.items
