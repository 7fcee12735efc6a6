-- The walk along one side that mends the stitches of the other side.
use Rattle.std.proofs.Common.{subst, sym}
use Rattle.std.specs.declared.option.Option.{Option}
use Rattle.tile_store.specs.declared.tiles.TileId.{TileId}
use Rattle.stitch_walk.proofs.Reaching.{when_true, when_false}
use Rattle.tile_cuts.proofs.Relinking.{IsRelinking, relinking_starts, relinking_small, relinking_ends_outside, relinking_ends_away, relinking_steps, relinking_falls}
use Rattle.tile_cuts.proofs.mending.relink_side.Goals as goal

pub loop-next-init : goal.loop-next-init
loop-next-init c =
    let P : Option TileId → Type 0 = λ o. IsRelinking c.args.store.now c.args.store.now c.args.side c.args.id c.args.area o in
    subst P (sym c.stitch-next.ensures) (relinking_starts c.args.store.now c.requires.0 c.args.id c.args.area c.requires.1 c.args.side c.read.result c.read.ensures)

pub faces-requires : goal.faces-requires
faces-requires c =
    relinking_small c.args.store.now c.loop-next.store c.args.side c.args.id c.args.area c.loop-next.next c.loop-next.invariant c.in-Some.at c.read-neighbour.result c.in-Some.is c.read-neighbour.ensures

pub returns-then-not-faces-clause-named : goal.returns-then-not-faces-clause-named
returns-then-not-faces-clause-named c =
    relinking_ends_away c.args.store.now c.loop-next.store c.args.side c.args.id c.args.area c.loop-next.next c.loop-next.invariant c.in-Some.at c.read-neighbour.result c.in-Some.is c.read-neighbour.ensures (when_false _ _ c.faces.ensures c.if-not-faces.true)

pub loop-next-smaller : goal.loop-next-smaller
loop-next-smaller c =
    relinking_falls c.args.store.now c.loop-next.store c.args.side c.args.id c.args.area c.loop-next.next c.loop-next.invariant c.in-Some.at c.read-neighbour.result c.in-Some.is c.read-neighbour.ensures c.facing-mended.result c.facing-mended.ensures (when_true _ _ c.faces.ensures c.if-not-faces.false) c.write.new.self c.write.ensures.changed c.onward-next.result c.onward-next.ensures

pub loop-next-preserved : goal.loop-next-preserved
loop-next-preserved c =
    relinking_steps c.args.store.now c.loop-next.store c.args.side c.args.id c.args.area c.loop-next.next c.loop-next.invariant c.in-Some.at c.read-neighbour.result c.in-Some.is c.read-neighbour.ensures c.facing-mended.result c.facing-mended.ensures (when_true _ _ c.faces.ensures c.if-not-faces.false) c.write.new.self c.write.ensures.changed c.onward-next.result c.onward-next.ensures c.write.ensures.spare

pub returns-clause-named : goal.returns-clause-named
returns-clause-named c =
    relinking_ends_outside c.args.store.now c.loop-next.store c.args.side c.args.id c.args.area c.loop-next.next c.loop-next.invariant c.in_default.is
