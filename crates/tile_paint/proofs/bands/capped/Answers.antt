use Rattle.tile_paint.proofs.Capping.{capped_nowhere}
use Rattle.tile_paint.proofs.bands.capped.Goals as goal

pub returns-in_default : goal.returns-in_default
returns-in_default c = capped_nowhere c.args.t.now.store c.args.t.now.domain c.look.ensures.filled c.args.band c.args.p c.in_default.ensures.none
