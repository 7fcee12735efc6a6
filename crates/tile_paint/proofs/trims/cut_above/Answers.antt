use Rattle.std.proofs.Common.{pos, ◌≡◌, ◌+ℤ◌, ◌<ℤ◌, ◌∙◌, w32, to_z, of_z, arith}
use Rattle.std.proofs.lemmas.Int.{ints}
use Rattle.stitch_walk.proofs.Reaching.{when_true, when_false}
use Rattle.tile_paint.proofs.Axes.{at_least}
use Rattle.tile_paint.proofs.Cutting.{read_piece}
use Rattle.tile_paint.proofs.Narrowing.{narrowed_not}
use Rattle.tile_paint.proofs.Trimming.{can_cut_row, all_up_to, row_cut_open, row_cut_lower, lower_rest}
use Rattle.tile_paint.proofs.trims.cut_above.Goals as goal

pub returns-then-not-ends_above-clause-narrowed : goal.returns-then-not-ends_above-clause-narrowed
returns-then-not-ends_above-clause-narrowed c = narrowed_not c.args.t.now.store c.args.found c.requires.piece

pub returns-then-not-ends_above-clause-rest : goal.returns-then-not-ends_above-clause-rest
returns-then-not-ends_above-clause-rest c = all_up_to c.args.band.y1 c.args.found.piece.area (at_least _ _ (when_false _ _ c.ends_above.ensures c.if-not-ends_above.true))

pub cut_row-upper-requires-clause-crosses : goal.cut_row-upper-requires-clause-crosses
cut_row-upper-requires-clause-crosses c =
    let less : c.args.band.y1 <ℤ c.args.found.piece.area.y1 = when_true _ _ c.ends_above.ensures c.if-not-ends_above.false in
    let reaches = c.requires.reaches in
    let at : to_z w32 (of_z w32 c.row_past-row.result) ≡ c.args.band.y1 +ℤ pos 1 = (let fits : to_z w32 (of_z w32 c.row_past-row.result) ≡ c.row_past-row.result = omega (arith, ints) in fits ∙ c.row_past-row.ensures) in
    can_cut_row c.args.t.now.store c.reserve.new.self.store c.args.found.id c.args.found.piece _ c.reserve.ensures.tiles c.requires.piece (omega (arith, ints)) (omega (arith, ints))

pub returns-clause-open_from : goal.returns-clause-open_from
returns-clause-open_from c =
    let at : to_z w32 (of_z w32 c.row_past-row.result) ≡ c.args.band.y1 +ℤ pos 1 = (let fits : to_z w32 (of_z w32 c.row_past-row.result) ≡ c.row_past-row.result = omega (arith, ints) in fits ∙ c.row_past-row.ensures) in
    let now = read_piece c.cut_row-upper.new.t.store _ c.read.result c.read.ensures.id c.read.ensures.piece in
    let low = c.requires.band.from in let high = c.requires.band.to in let order = c.args.band.y_ordered in
    row_cut_open c.args.t.now.store c.reserve.new.self.store c.cut_row-upper.new.t.store c.args.found c.read.result c.cut_row-upper.result c.reserve.ensures.tiles c.requires.piece now c.cut_row-upper.ensures.cut _ c.cut_row-upper.ensures.begins c.args.area c.args.band.y0 c.requires.open_from c.requires.touches (omega (arith, ints)) (omega (arith, ints))

pub returns-clause-narrowed : goal.returns-clause-narrowed
returns-clause-narrowed c =
    let now = read_piece c.cut_row-upper.new.t.store _ c.read.result c.read.ensures.id c.read.ensures.piece in
    row_cut_lower c.args.t.now.store c.reserve.new.self.store c.cut_row-upper.new.t.store c.args.found c.read.result c.cut_row-upper.result c.reserve.ensures.tiles c.requires.piece now c.cut_row-upper.ensures.cut _ c.cut_row-upper.ensures.begins c.read.ensures.id

pub returns-clause-rest : goal.returns-clause-rest
returns-clause-rest c =
    let less : c.args.band.y1 <ℤ c.args.found.piece.area.y1 = when_true _ _ c.ends_above.ensures c.if-not-ends_above.false in
    let at : to_z w32 (of_z w32 c.row_past-row.result) ≡ c.args.band.y1 +ℤ pos 1 = (let fits : to_z w32 (of_z w32 c.row_past-row.result) ≡ c.row_past-row.result = omega (arith, ints) in fits ∙ c.row_past-row.ensures) in
    let now = read_piece c.cut_row-upper.new.t.store _ c.read.result c.read.ensures.id c.read.ensures.piece in
    lower_rest c.args.t.now.store c.reserve.new.self.store c.cut_row-upper.new.t.store c.args.found c.read.result c.cut_row-upper.result c.reserve.ensures.tiles c.requires.piece now c.cut_row-upper.ensures.cut _ c.cut_row-upper.ensures.begins c.args.band.y1 c.read.ensures.id at less
