use Rattle.std.proofs.Common.{arith}
use Rattle.zone_fill.proofs.Seeding.{seeds_more}
use Rattle.zone_fill.proofs.seeds.seeds_of.Goals as goal

pub loop-part-preserved : goal.loop-part-preserved
loop-part-preserved c =
    seeds_more c.args.shapes.now c.args.net c.args.layer c.args.parts.now c.loop-part.part-index c.loop-part.seeds.items c.push.new.self.items c.part-item.result c.has_seed.result
    (omega arith) c.part-item.is c.in_ok-push.ensures.items c.has_seed.ensures c.loop-part.invariant
