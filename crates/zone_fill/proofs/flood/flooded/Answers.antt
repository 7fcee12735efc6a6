use Rattle.zone_fill.proofs.Floods.{flood_ends}
use Rattle.zone_fill.proofs.flood.flooded.Goals as goal

pub returns : goal.returns
returns c =
    let done = c.in_ok-run.ensures in
    flood_ends c.args.parts.now c.args.seeds.items c.run.new.self.marks.items done.flood done.stay done.sound
