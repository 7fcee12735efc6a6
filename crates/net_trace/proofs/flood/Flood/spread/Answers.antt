use Rattle.std.proofs.Common.{refl, arith}
use Rattle.std.proofs.lemmas.List.Elements.{Contains-push}
use Rattle.net_trace.proofs.Floods.{flood_takes, flood_tried}
use Rattle.net_trace.proofs.flood.Flood.spread.Goals as goal

pub loop-to-init : goal.loop-to-init
loop-to-init c =
    let front = c.args.self.now.front.items in
    record {
      flood = flood_takes c.args.pieces.now c.args.group c.args.self.now.groups.items front c.args.from c.requires.flood;
      from = c.requires.flood.front_is c.args.from (Contains-push front c.args.from);
      stay = λ i h. h;
      less = refl;
    }

pub returns-clause-flood : goal.returns-clause-flood
returns-clause-flood c =
    flood_tried c.args.pieces.now c.args.group c.loop-to.self.groups.items c.loop-to.self.front.items c.args.from c.loop-to.to (omega arith) c.loop-to.invariant.flood
