-- All areas and stitches are as before.
use Rattle.stitch_walk.proofs.Filled.{filled}
use Rattle.tile_cuts.proofs.Relabelling.{relabelled_tiling, relabels}
use Rattle.tile_cuts.proofs.relabels.relabel.Goals as goal

pub invariant_of-t : goal.invariant_of-t
invariant_of-t c =
    relabelled_tiling c.t.inside.store c.write.new.self c.t.inside.domain c.args.id c.read-tile.result c.args.label c.t.invariant c.read-tile.ensures c.write.ensures.changed

pub returns-clause-relabelled : goal.returns-clause-relabelled
returns-clause-relabelled c =
    relabels c.t.inside.store c.write.new.self c.t.inside.domain c.args.id c.read-tile.result c.args.label c.t.invariant c.read-tile.ensures c.write.ensures.changed c.args.t.now c.t.view_is

pub returns-clause-filled : goal.returns-clause-filled
returns-clause-filled c =
    filled c.write.new.self c.t.inside.domain (relabelled_tiling c.t.inside.store c.write.new.self c.t.inside.domain c.args.id c.read-tile.result c.args.label c.t.invariant c.read-tile.ensures c.write.ensures.changed)
