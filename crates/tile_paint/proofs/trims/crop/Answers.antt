use Rattle.std.proofs.lemmas.Result.{IfOk-weaker}
use Rattle.tile_paint.proofs.Narrowing.{narrowed_twice}
use Rattle.tile_paint.proofs.Trimming.{across_from, area_is_band, cropped, fitted_within, same_rows_inside, begins_still, ends_still, fitted_columns}
use Rattle.tile_paint.proofs.trims.crop.Goals as goal

pub fit-requires-clause-band : goal.fit-requires-clause-band
fit-requires-clause-band c = area_is_band c.args.area

pub fit-requires-clause-touches : goal.fit-requires-clause-touches
fit-requires-clause-touches c = (across_from c.args.area c.args.found.piece.area c.requires.meets).touches

pub fit-requires-clause-reaches : goal.fit-requires-clause-reaches
fit-requires-clause-reaches c = (across_from c.args.area c.args.found.piece.area c.requires.meets).reaches_row

pub fit-requires-clause-begins : goal.fit-requires-clause-begins
fit-requires-clause-begins c = (across_from c.args.area c.args.found.piece.area c.requires.meets).begins_row

pub cut_left-requires-clause-piece : goal.cut_left-requires-clause-piece
cut_left-requires-clause-piece c = c.in_ok-level.ensures.narrowed.is_piece

pub cut_left-requires-clause-inside : goal.cut_left-requires-clause-inside
cut_left-requires-clause-inside c = fitted_within c.args.area c.args.found.piece.area c.in_ok-level.level.piece.area c.in_ok-level.ensures.rest

pub cut_left-requires-clause-reaches : goal.cut_left-requires-clause-reaches
cut_left-requires-clause-reaches c = (fitted_columns c.args.area c.args.found.piece.area c.in_ok-level.level.piece.area c.in_ok-level.ensures.rest c.requires.meets).reaches

pub cut_left-requires-clause-begins : goal.cut_left-requires-clause-begins
cut_left-requires-clause-begins c = (fitted_columns c.args.area c.args.found.piece.area c.in_ok-level.level.piece.area c.in_ok-level.ensures.rest c.requires.meets).begins

pub cut_right-requires-clause-piece : goal.cut_right-requires-clause-piece
cut_right-requires-clause-piece c = c.in_ok-right.ensures.narrowed.is_piece

pub cut_right-requires-clause-inside : goal.cut_right-requires-clause-inside
cut_right-requires-clause-inside c =
    same_rows_inside c.args.area c.in_ok-level.level.piece.area c.in_ok-right.right.piece.area c.in_ok-right.ensures.rest.rows
    (fitted_within c.args.area c.args.found.piece.area c.in_ok-level.level.piece.area c.in_ok-level.ensures.rest)

pub cut_right-requires-clause-reaches : goal.cut_right-requires-clause-reaches
cut_right-requires-clause-reaches c =
    ends_still c.args.area c.in_ok-level.level.piece.area c.in_ok-right.right.piece.area c.in_ok-right.ensures.rest
    (fitted_columns c.args.area c.args.found.piece.area c.in_ok-level.level.piece.area c.in_ok-level.ensures.rest c.requires.meets).reaches

pub cut_right-requires-clause-begins : goal.cut_right-requires-clause-begins
cut_right-requires-clause-begins c =
    begins_still c.args.area c.in_ok-level.level.piece.area c.in_ok-right.right.piece.area c.in_ok-right.ensures.rest
    (fitted_columns c.args.area c.args.found.piece.area c.in_ok-level.level.piece.area c.in_ok-level.ensures.rest c.requires.meets).begins

pub returns-clause-narrowed : goal.returns-clause-narrowed
returns-clause-narrowed c =
    IfOk-weaker c.cut_right.result _ _ (λ g n.
    narrowed_twice c.args.t.now.store c.fit.new.t.store c.cut_right.new.t.store c.args.found c.in_ok-level.level g c.in_ok-level.ensures.narrowed
    (narrowed_twice c.fit.new.t.store c.cut_left.new.t.store c.cut_right.new.t.store c.in_ok-level.level c.in_ok-right.right g c.in_ok-right.ensures.narrowed n)) c.cut_right.ensures.narrowed

pub returns-clause-rest : goal.returns-clause-rest
returns-clause-rest c =
    IfOk-weaker c.cut_right.result _ _ (λ g r. cropped c.args.found.piece.area c.in_ok-level.level.piece.area c.in_ok-right.right.piece.area g.piece.area c.args.area c.in_ok-level.ensures.rest c.in_ok-right.ensures.rest r) c.cut_right.ensures.rest
