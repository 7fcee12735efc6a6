use Rattle.std.proofs.Common.{arith}
use Rattle.std.proofs.lemmas.Int.{ints, clamps}
use Rattle.tile_paint.proofs.bands.up_to.Goals as goal

pub new-requires-clause-y_ordered : goal.new-requires-clause-y_ordered
new-requires-clause-y_ordered c =
    let e = c.min.ensures.value in
    omega (arith, ints, clamps)

pub returns : goal.returns
returns c =
    let e = c.min.ensures.value in
    let n = c.new.ensures in
    record {
      columns = record { left = omega (arith, ints); right = omega (arith, ints) };
      low = omega (arith, ints);
      high = omega (arith, ints, clamps);
    }
