use Rattle.std.proofs.Common.{subst}
use Rattle.tile_store.specs.declared.tiles.TileId.{TileId}
use Rattle.tile_paint.specs.Changes.{IsCutOut}
use Rattle.tile_paint.proofs.Cutting.{read_piece}
use Rattle.tile_paint.proofs.Narrowing.{present}
use Rattle.tile_paint.proofs.Outlining.{is_cut_out, open_when_cut_out}
use Rattle.tile_paint.proofs.outlines.cut_out_tile.Goals as goal

pub read-found-requires : goal.read-found-requires
read-found-requires c = present c.args.t.now.store c.args.id c.requires.meets.piece c.requires.meets.is_piece

pub returns-clause-open_from : goal.returns-clause-open_from
returns-clause-open_from c =
    let found = read_piece c.args.t.now.store _ c.read-found.result c.read-found.ensures.id c.read-found.ensures.piece in
    open_when_cut_out c.args.t.now.store c.crop.new.t.store c.relabel.new.t.store c.args.area c.args.label c.read-found.result c.in_ok-inner.inner found c.in_ok-inner.ensures.narrowed c.in_ok-inner.ensures.rest c.relabel.ensures.relabelled c.in_ok-inner.ensures.open_from

pub returns-clause-cut_out : goal.returns-clause-cut_out
returns-clause-cut_out c =
    let found = read_piece c.args.t.now.store _ c.read-found.result c.read-found.ensures.id c.read-found.ensures.piece in
    let Q : TileId → Type 0 = λ n. IsCutOut c.args.t.now.store c.relabel.new.t.store c.args.area c.args.label n in
    subst Q c.read-found.ensures.id
    (is_cut_out c.args.t.now.store c.crop.new.t.store c.relabel.new.t.store c.args.area c.args.label c.read-found.result c.in_ok-inner.inner found c.in_ok-inner.ensures.narrowed c.in_ok-inner.ensures.rest c.relabel.ensures.relabelled c.relabel.new.t.domain c.relabel.ensures.filled)
