use Rattle.std.proofs.Common.{◌≤◌, ◌+◌, ◌∙◌, List, ◌∷◌, length, drop, refl, sym, subst, slice_index_or, arith}
use Rattle.std.proofs.lemmas.List.{drop_all}
use Rattle.geo_rect.specs.declared.shapes.Rect.{Rect}
use Rattle.geo_rect.specs.Plane.{LiesIn}
use Rattle.plane_core.proofs.Members.{has_head}
use Rattle.tile_store.specs.declared.tiles.TileId.{TileId}
use Rattle.tile_paint.specs.States.{IsCuttingOut}
use Rattle.tile_paint.proofs.Outlining.{cutting_begins, cutting_goes_on, cutting_ends, waiting_next}
use Rattle.tile_paint.proofs.outlines.cut_out_all.Goals as goal

pub loop-id-init : goal.loop-id-init
loop-id-init c = record { domain = refl; cutting = cutting_begins c.args.t.now.store c.args.area c.args.label c.args.ids.now c.requires.open_from c.requires.meeting }

pub cut_out_tile-requires-clause-meets : goal.cut_out_tile-requires-clause-meets
cut_out_tile-requires-clause-meets c =
    let zero : TileId = record { 0 = 0 } in
    let id = slice_index_or c.args.ids.now c.loop-id.id-index zero in
    let rest = drop (c.loop-id.id-index + 1) c.args.ids.now in
    let P : List TileId → Type 0 = λ l. IsCuttingOut c.args.t.now.store c.loop-id.t.store c.args.area c.args.label l in
    let now : IsCuttingOut c.args.t.now.store c.loop-id.t.store c.args.area c.args.label (id ∷ rest) = subst P (waiting_next c.args.ids.now c.loop-id.id-index zero c.loop-id-test.true) c.loop-id.invariant.cutting in
    now.still id (has_head id rest)

pub loop-id-preserved : goal.loop-id-preserved
loop-id-preserved c =
    let zero : TileId = record { 0 = 0 } in
    let id = slice_index_or c.args.ids.now c.loop-id.id-index zero in
    let rest = drop (c.loop-id.id-index + 1) c.args.ids.now in
    let P : List TileId → Type 0 = λ l. IsCuttingOut c.args.t.now.store c.loop-id.t.store c.args.area c.args.label l in
    let now : IsCuttingOut c.args.t.now.store c.loop-id.t.store c.args.area c.args.label (id ∷ rest) = subst P (waiting_next c.args.ids.now c.loop-id.id-index zero c.loop-id-test.true) c.loop-id.invariant.cutting in
    record {
      domain = c.cut_out_tile.ensures.domain ∙ c.loop-id.invariant.domain;
      cutting = cutting_goes_on c.args.t.now.store c.loop-id.t.store c.cut_out_tile.new.t.store c.args.area c.args.label id rest now c.in_ok-cut_out_tile.ensures.open_from c.in_ok-cut_out_tile.ensures.cut_out;
    }

pub returns-clause-ready : goal.returns-clause-ready
returns-clause-ready c =
    let past : length c.args.ids.now ≤ c.loop-id.id-index = omega arith in
    let P : List TileId → Type 0 = λ l. IsCuttingOut c.args.t.now.store c.loop-id.t.store c.args.area c.args.label l in
    let Q : Rect → Type 0 = λ r. LiesIn c.args.area r in
    cutting_ends c.args.t.now.store c.loop-id.t.store c.loop-id.t.domain c.args.area c.args.label
    c.tiles_fill.ensures.filled
    (subst Q (sym c.loop-id.invariant.domain) c.requires.inside)
    (subst P (drop_all c.loop-id.id-index c.args.ids.now past) c.loop-id.invariant.cutting)
