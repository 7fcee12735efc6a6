-- The lower part keeps the stitches at the lower left corner, and the upper one those at the upper right.
use Rattle.std.proofs.Common.{refl}
use Rattle.stitch_walk.specs.Pieces.{AreStacked}
use Rattle.stitch_walk.proofs.Linked.{small_tile, tiling_now}
use Rattle.tile_cuts.proofs.Planning.{small_lower, small_upper, past_lower, past_upper, row_cut, is_cut, tile_now}
use Rattle.tile_cuts.proofs.cuts.cut_row.Goals as goal

pub stitch_across-requires-clause-small : goal.stitch_across-requires-clause-small
stitch_across-requires-clause-small c =
    let t = c.t.inside in
    small_lower t.store c.args.id c.read-whole.result c.read-whole.ensures c.split_rows-parts.result.first c.split_rows-parts.result.second c.split_rows-parts.ensures.parts (small_tile t.store t.domain c.args.id c.read-whole.result c.t.invariant c.read-whole.ensures)

pub stitch_across-requires-2-clause-small : goal.stitch_across-requires-2-clause-small
stitch_across-requires-2-clause-small c =
    let t = c.t.inside in
    small_upper t.store c.args.id c.read-whole.result c.read-whole.ensures c.split_rows-parts.result.first c.split_rows-parts.result.second c.split_rows-parts.ensures.parts (small_tile t.store t.domain c.args.id c.read-whole.result c.t.invariant c.read-whole.ensures)

pub stitch_across-requires-clause-past : goal.stitch_across-requires-clause-past
stitch_across-requires-clause-past c =
    let t = c.t.inside in
    past_lower c.args.t.now.store c.args.id c.read-whole.result (tile_now t.store t.domain c.args.t.now c.args.id c.read-whole.result c.t.view_is c.read-whole.ensures) c.split_rows-parts.result.first c.split_rows-parts.result.second c.split_rows-parts.ensures.parts

pub stitch_across-requires-2-clause-past : goal.stitch_across-requires-2-clause-past
stitch_across-requires-2-clause-past c =
    let t = c.t.inside in
    past_upper c.args.t.now.store c.args.id c.read-whole.result (tile_now t.store t.domain c.args.t.now c.args.id c.read-whole.result c.t.view_is c.read-whole.ensures) c.split_rows-parts.result.first c.split_rows-parts.result.second c.split_rows-parts.ensures.parts

pub replace-requires-clause-ready : goal.replace-requires-clause-ready
replace-requires-clause-ready c =
    let t = c.t.inside in
    row_cut c.args.t.now (tiling_now t.store t.domain c.args.t.now c.t.view_is c.t.invariant) c.args.id c.read-whole.result _ _ (tile_now t.store t.domain c.args.t.now c.args.id c.read-whole.result c.t.view_is c.read-whole.ensures) (record { first_bl = refl; first_lb = refl; second_tr = refl; second_rt = refl }) c.split_rows-parts.ensures.parts refl c.stitch_across.ensures c.stitch_across-2.ensures

pub returns-clause-cut : goal.returns-clause-cut
returns-clause-cut c =
    let t = c.t.inside in
    is_cut AreStacked c.args.t.now.store c.replace.new.t.store c.args.id c.replace.result c.read-whole.result _ _ (tile_now t.store t.domain c.args.t.now c.args.id c.read-whole.result c.t.view_is c.read-whole.ensures) c.split_rows-parts.ensures.parts refl refl c.replace.ensures.replaced
