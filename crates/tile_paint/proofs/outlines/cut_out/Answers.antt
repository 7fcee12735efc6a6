use Rattle.tile_paint.proofs.Outlining.{maximal_is_open}
use Rattle.tile_paint.proofs.outlines.cut_out.Goals as goal

pub cut_out_all-requires-clause-open_from : goal.cut_out_all-requires-clause-open_from
cut_out_all-requires-clause-open_from c = maximal_is_open c.args.t.now.store c.args.area c.args.area.y0 c.requires.maximal
