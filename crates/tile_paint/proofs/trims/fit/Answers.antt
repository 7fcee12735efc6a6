use Rattle.std.proofs.lemmas.Result.{IfOk-weaker}
use Rattle.tile_paint.proofs.Narrowing.{narrowed_twice}
use Rattle.tile_paint.proofs.Trimming.{fitted_rows, touches_still, begins_in_band}
use Rattle.tile_paint.proofs.trims.fit.Goals as goal

pub cut_above-requires-clause-touches : goal.cut_above-requires-clause-touches
cut_above-requires-clause-touches c = touches_still c.args.area c.args.found.piece.area c.in_ok-upper.upper.piece.area c.in_ok-upper.ensures.rest.columns c.requires.touches

pub cut_above-requires-clause-reaches : goal.cut_above-requires-clause-reaches
cut_above-requires-clause-reaches c = begins_in_band c.args.found.piece.area c.in_ok-upper.upper.piece.area c.args.band c.in_ok-upper.ensures.rest c.requires.begins

pub cut_above-requires-clause-piece : goal.cut_above-requires-clause-piece
cut_above-requires-clause-piece c = c.in_ok-upper.ensures.narrowed.is_piece

pub returns-clause-narrowed : goal.returns-clause-narrowed
returns-clause-narrowed c =
    IfOk-weaker c.cut_above.result _ _ (λ g n. narrowed_twice c.args.t.now.store c.cut_below.new.t.store c.cut_above.new.t.store c.args.found c.in_ok-upper.upper g c.in_ok-upper.ensures.narrowed n) c.cut_above.ensures.narrowed

pub returns-clause-rest : goal.returns-clause-rest
returns-clause-rest c =
    IfOk-weaker c.cut_above.result _ _ (λ g r. fitted_rows c.args.found.piece.area c.in_ok-upper.upper.piece.area g.piece.area c.args.band c.in_ok-upper.ensures.rest r) c.cut_above.ensures.rest
