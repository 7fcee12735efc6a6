use Rattle.geo_rect.proofs.Lifts.{clamped_from}
use Rattle.geo_rect.proofs.geometry.clamp.Goals as goal

pub returns : goal.returns
returns c = clamped_from c.args.b c.args.e _ _ _ _ c.columns.ensures c.columns-2.ensures c.rows.ensures c.rows-2.ensures _ _ _ c.of.ensures c.images.ensures c.images-2.ensures
