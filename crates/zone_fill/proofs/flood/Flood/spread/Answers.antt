use Rattle.std.proofs.Common.{refl, arith}
use Rattle.std.proofs.lemmas.List.Elements.{Contains-push}
use Rattle.zone_fill.proofs.Floods.{flood_takes, flood_tried}
use Rattle.zone_fill.proofs.flood.Flood.spread.Goals as goal

pub loop-to-init : goal.loop-to-init
loop-to-init c =
    let front = c.args.self.now.front.items in
    record {
      flood = flood_takes c.args.parts.now c.args.self.now.marks.items front c.args.from c.requires.flood;
      from = c.requires.flood.front_is c.args.from (Contains-push front c.args.from);
      stay = λ i h. h;
      sound = λ seeds h. h;
      less = refl;
    }

pub returns-clause-flood : goal.returns-clause-flood
returns-clause-flood c =
    flood_tried c.args.parts.now c.loop-to.self.marks.items c.loop-to.self.front.items c.args.from c.loop-to.to (omega arith) c.loop-to.invariant.flood
