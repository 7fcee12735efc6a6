use Rattle.std.proofs.Common.{arith}
use Rattle.std.proofs.lemmas.Int.{ints, clamps}
use Rattle.plane_set.proofs.families.Family.widest.Goals as goal

pub returns-in-Vias-clause-measure : goal.returns-in-Vias-clause-measure
returns-in-Vias-clause-measure c =
    let pad = c.pad.ensures.measure in
    let inner = c.inner.ensures.measure in
    record {
      from = omega (arith, ints, clamps, c.max.ensures.value, pad.from);
      to = omega (arith, ints, clamps, c.max.ensures.value, pad.to, inner.to);
    }
