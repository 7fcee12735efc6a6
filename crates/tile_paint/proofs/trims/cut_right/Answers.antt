use Rattle.std.proofs.Common.{pos, ◌≡◌, ◌+ℤ◌, ◌<ℤ◌, ◌∙◌, w32, to_z, of_z, arith}
use Rattle.std.proofs.lemmas.Int.{ints}
use Rattle.stitch_walk.proofs.Reaching.{when_true, when_false}
use Rattle.tile_paint.proofs.Axes.{at_least}
use Rattle.tile_paint.proofs.Cutting.{read_piece}
use Rattle.tile_paint.proofs.Narrowing.{narrowed_not}
use Rattle.tile_paint.proofs.Trimming.{can_cut_column, all_left_up_to, column_cut_open, column_cut_left, left_rest}
use Rattle.tile_paint.proofs.trims.cut_right.Goals as goal

pub returns-then-not-ends_right-clause-narrowed : goal.returns-then-not-ends_right-clause-narrowed
returns-then-not-ends_right-clause-narrowed c = narrowed_not c.args.t.now.store c.args.found c.requires.piece

pub returns-then-not-ends_right-clause-rest : goal.returns-then-not-ends_right-clause-rest
returns-then-not-ends_right-clause-rest c = all_left_up_to c.args.area.x1 c.args.found.piece.area (at_least _ _ (when_false _ _ c.ends_right.ensures c.if-not-ends_right.true))

pub cut_col-right-requires-clause-crosses : goal.cut_col-right-requires-clause-crosses
cut_col-right-requires-clause-crosses c =
    let less : c.args.area.x1 <ℤ c.args.found.piece.area.x1 = when_true _ _ c.ends_right.ensures c.if-not-ends_right.false in
    let reaches = c.requires.reaches in
    let at : to_z w32 (of_z w32 c.column_past-column.result) ≡ c.args.area.x1 +ℤ pos 1 = (let fits : to_z w32 (of_z w32 c.column_past-column.result) ≡ c.column_past-column.result = omega (arith, ints) in fits ∙ c.column_past-column.ensures) in
    can_cut_column c.args.t.now.store c.reserve.new.self.store c.args.found.id c.args.found.piece _ c.reserve.ensures.tiles c.requires.piece (omega (arith, ints)) (omega (arith, ints))

pub returns-clause-open_from : goal.returns-clause-open_from
returns-clause-open_from c =
    let at : to_z w32 (of_z w32 c.column_past-column.result) ≡ c.args.area.x1 +ℤ pos 1 = (let fits : to_z w32 (of_z w32 c.column_past-column.result) ≡ c.column_past-column.result = omega (arith, ints) in fits ∙ c.column_past-column.ensures) in
    let now = read_piece c.cut_col-right.new.t.store _ c.read.result c.read.ensures.id c.read.ensures.piece in
    let order = c.args.area.x_ordered in
    column_cut_open c.args.t.now.store c.reserve.new.self.store c.cut_col-right.new.t.store c.args.found c.read.result c.cut_col-right.result c.reserve.ensures.tiles c.requires.piece now c.cut_col-right.ensures.cut _ c.cut_col-right.ensures.begins c.args.area c.requires.open_from c.requires.inside (omega (arith, ints)) (omega (arith, ints))

pub returns-clause-narrowed : goal.returns-clause-narrowed
returns-clause-narrowed c =
    let now = read_piece c.cut_col-right.new.t.store _ c.read.result c.read.ensures.id c.read.ensures.piece in
    column_cut_left c.args.t.now.store c.reserve.new.self.store c.cut_col-right.new.t.store c.args.found c.read.result c.cut_col-right.result c.reserve.ensures.tiles c.requires.piece now c.cut_col-right.ensures.cut _ c.cut_col-right.ensures.begins c.read.ensures.id

pub returns-clause-rest : goal.returns-clause-rest
returns-clause-rest c =
    let less : c.args.area.x1 <ℤ c.args.found.piece.area.x1 = when_true _ _ c.ends_right.ensures c.if-not-ends_right.false in
    let at : to_z w32 (of_z w32 c.column_past-column.result) ≡ c.args.area.x1 +ℤ pos 1 = (let fits : to_z w32 (of_z w32 c.column_past-column.result) ≡ c.column_past-column.result = omega (arith, ints) in fits ∙ c.column_past-column.ensures) in
    let now = read_piece c.cut_col-right.new.t.store _ c.read.result c.read.ensures.id c.read.ensures.piece in
    left_rest c.args.t.now.store c.reserve.new.self.store c.cut_col-right.new.t.store c.args.found c.read.result c.cut_col-right.result c.reserve.ensures.tiles c.requires.piece now c.cut_col-right.ensures.cut _ c.cut_col-right.ensures.begins c.args.area.x1 c.read.ensures.id at less
