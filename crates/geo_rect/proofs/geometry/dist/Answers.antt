use Rattle.std.proofs.Common.{arith}
use Rattle.geo_rect.proofs.Lifts.{distance_from}
use Rattle.geo_rect.proofs.geometry.dist.Goals as goal

pub returns-clause-exact : goal.returns-clause-exact
returns-clause-exact c = distance_from c.args.a c.args.b _ _ _ _ c.columns.ensures c.columns-2.ensures c.rows.ensures c.rows-2.ensures _ _ _ (omega arith) c.gap_between-across.ensures.exact c.gap_between-up.ensures.exact
