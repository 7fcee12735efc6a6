-- The entry from the left, and that from below.
use Rattle.std.proofs.Common.{inl, inr, arith}
use Rattle.std.proofs.lemmas.Int.{ints, clamps}
use Rattle.stitch_walk.proofs.sweeps.entry.Goals as goal

pub returns-then-area-r : goal.returns-then-area-r
returns-then-area-r c =
    inl (record {
      begins_later = omega (arith, ints);
      column = omega (arith, ints);
      row = omega (arith, ints, clamps);
    })

pub returns-then-area-r-2 : goal.returns-then-area-r-2
returns-then-area-r-2 c =
    inr (record {
      begins_first = omega (arith, ints);
      begins_higher = omega (arith, ints);
      column = omega (arith, ints);
      row = omega (arith, ints);
    })
