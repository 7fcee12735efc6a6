-- One side after another: what was mended on one is kept on the others.
use Rattle.tile_cuts.proofs.Mended.{but_in_some, four_mended, four_named}
use Rattle.tile_cuts.proofs.mending.relink.Goals as goal

pub relink_side-requires-2 : goal.relink_side-requires-2
relink_side-requires-2 c =
    but_in_some c.args.id c.args.area c.args.store.now c.relink_side.new.store c.relink_side.ensures.mended c.requires

pub relink_side-requires-3 : goal.relink_side-requires-3
relink_side-requires-3 c =
    but_in_some c.args.id c.args.area c.relink_side.new.store c.relink_side-2.new.store c.relink_side-2.ensures.mended
    (but_in_some c.args.id c.args.area c.args.store.now c.relink_side.new.store c.relink_side.ensures.mended c.requires)

pub relink_side-requires-4 : goal.relink_side-requires-4
relink_side-requires-4 c =
    but_in_some c.args.id c.args.area c.relink_side-2.new.store c.relink_side-3.new.store c.relink_side-3.ensures.mended
    (but_in_some c.args.id c.args.area c.relink_side.new.store c.relink_side-2.new.store c.relink_side-2.ensures.mended
    (but_in_some c.args.id c.args.area c.args.store.now c.relink_side.new.store c.relink_side.ensures.mended c.requires))

pub returns-clause-mended : goal.returns-clause-mended
returns-clause-mended c =
    four_mended c.args.id c.args.area c.args.store.now c.relink_side.new.store c.relink_side-2.new.store c.relink_side-3.new.store c.relink_side-4.new.store c.relink_side.ensures.mended c.relink_side-2.ensures.mended c.relink_side-3.ensures.mended c.relink_side-4.ensures.mended

pub returns-clause-named : goal.returns-clause-named
returns-clause-named c =
    four_named c.args.id c.args.area c.args.store.now c.relink_side.new.store c.relink_side-2.new.store c.relink_side-3.new.store c.relink_side-4.new.store c.relink_side.ensures.mended c.relink_side-2.ensures.mended c.relink_side-3.ensures.mended c.relink_side-4.ensures.mended c.relink_side.ensures.named c.relink_side-2.ensures.named c.relink_side-3.ensures.named c.relink_side-4.ensures.named
