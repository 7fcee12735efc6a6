use Rattle.std.proofs.Common.{arith}
use Rattle.std.proofs.lemmas.Int.{ints}
use Rattle.geo_rect.proofs.Lifts.{grown_of}
use Rattle.geo_rect.proofs.geometry.grown.Goals as goal

pub returns : goal.returns
returns c = grown_of c.args.b _ c.args.g _ _ _ _ _ (omega (arith, ints)) c.columns.ensures c.rows.ensures c.of.ensures c.widened.ensures c.widened-2.ensures
