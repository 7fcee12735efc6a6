use Rattle.std.proofs.Common.{arith}
use Rattle.std.proofs.lemmas.Int.{ints}
use Rattle.geo_rect.proofs.Distances.{gap_after, gap_before, gap_none}
use Rattle.geo_rect.proofs.axes.gap_between.Goals as goal

pub returns-then-a-b-clause-exact : goal.returns-then-a-b-clause-exact
returns-then-a-b-clause-exact c = gap_after c.args.a c.args.b _ (omega (arith, ints)) (omega (arith, ints))

pub returns-then-b-a-clause-exact : goal.returns-then-b-a-clause-exact
returns-then-b-a-clause-exact c = gap_before c.args.a c.args.b _ (omega (arith, ints)) (omega (arith, ints))

pub returns-clause-exact : goal.returns-clause-exact
returns-clause-exact c = gap_none c.args.a c.args.b (omega (arith, ints)) (omega (arith, ints))
