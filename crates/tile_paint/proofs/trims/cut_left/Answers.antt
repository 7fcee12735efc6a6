use Rattle.std.proofs.Common.{ℤ, ◌≡◌, subst, ◌<ℤ◌, w32, to_z, of_z, arith}
use Rattle.std.proofs.lemmas.Int.{ints}
use Rattle.tile_paint.specs.Changes.{IsRightFrom}
use Rattle.stitch_walk.proofs.Reaching.{when_true, when_false}
use Rattle.tile_paint.proofs.Axes.{at_least}
use Rattle.tile_paint.proofs.Cutting.{read_piece}
use Rattle.tile_paint.proofs.Narrowing.{narrowed_not}
use Rattle.tile_paint.proofs.Trimming.{can_cut_column, all_right_from, column_cut_open, column_cut_right, right_rest}
use Rattle.tile_paint.proofs.trims.cut_left.Goals as goal

pub returns-then-not-begins_left-clause-narrowed : goal.returns-then-not-begins_left-clause-narrowed
returns-then-not-begins_left-clause-narrowed c = narrowed_not c.args.t.now.store c.args.found c.requires.piece

pub returns-then-not-begins_left-clause-rest : goal.returns-then-not-begins_left-clause-rest
returns-then-not-begins_left-clause-rest c = all_right_from c.args.area.x0 c.args.found.piece.area (at_least _ _ (when_false _ _ c.begins_left.ensures c.if-not-begins_left.true))

pub cut_col-right-requires-clause-crosses : goal.cut_col-right-requires-clause-crosses
cut_col-right-requires-clause-crosses c =
    let less : c.args.found.piece.area.x0 <ℤ c.args.area.x0 = when_true _ _ c.begins_left.ensures c.if-not-begins_left.false in
    let reaches = c.requires.reaches in
    let at : to_z w32 (of_z w32 c.args.area.x0) ≡ c.args.area.x0 = omega (arith, ints) in
    can_cut_column c.args.t.now.store c.reserve.new.self.store c.args.found.id c.args.found.piece _ c.reserve.ensures.tiles c.requires.piece (omega (arith, ints)) (omega (arith, ints))

pub returns-clause-open_from : goal.returns-clause-open_from
returns-clause-open_from c =
    let at : to_z w32 (of_z w32 c.args.area.x0) ≡ c.args.area.x0 = omega (arith, ints) in
    let now = read_piece c.cut_col-right.new.t.store _ c.read.result c.read.ensures.id c.read.ensures.piece in
    let order = c.args.area.x_ordered in
    column_cut_open c.args.t.now.store c.reserve.new.self.store c.cut_col-right.new.t.store c.args.found c.read.result c.cut_col-right.result c.reserve.ensures.tiles c.requires.piece now c.cut_col-right.ensures.cut _ c.cut_col-right.ensures.begins c.args.area c.requires.open_from c.requires.inside (omega (arith, ints)) (omega (arith, ints))

pub returns-clause-narrowed : goal.returns-clause-narrowed
returns-clause-narrowed c =
    let now = read_piece c.cut_col-right.new.t.store _ c.read.result c.read.ensures.id c.read.ensures.piece in
    column_cut_right c.args.t.now.store c.reserve.new.self.store c.cut_col-right.new.t.store c.args.found c.read.result c.cut_col-right.result c.reserve.ensures.tiles c.requires.piece now c.cut_col-right.ensures.cut _ c.cut_col-right.ensures.begins c.read.ensures.id

pub returns-clause-rest : goal.returns-clause-rest
returns-clause-rest c =
    let less : c.args.found.piece.area.x0 <ℤ c.args.area.x0 = when_true _ _ c.begins_left.ensures c.if-not-begins_left.false in
    let at : to_z w32 (of_z w32 c.args.area.x0) ≡ c.args.area.x0 = omega (arith, ints) in
    let now = read_piece c.cut_col-right.new.t.store _ c.read.result c.read.ensures.id c.read.ensures.piece in
    let Q : ℤ → Type 0 = λ z. IsRightFrom z c.args.found.piece.area c.read.result.piece.area in
    subst Q at (right_rest c.args.t.now.store c.reserve.new.self.store c.cut_col-right.new.t.store c.args.found c.read.result c.cut_col-right.result c.reserve.ensures.tiles c.requires.piece now c.cut_col-right.ensures.cut _ c.cut_col-right.ensures.begins c.read.ensures.id (omega (arith, ints)))
