use Rattle.std.proofs.Common.{arith}
use Rattle.std.proofs.lemmas.Int.{ints, clamps}
use Rattle.flat_plane.proofs.parts.part_after.Goals as goal

pub invariant_of-result : goal.invariant_of-result
invariant_of-result c = let o = c.args.i.ordered in let r = c.requires in omega (arith, ints, clamps)

pub returns : goal.returns
returns c = record { low = omega (arith, ints, clamps); high = omega (arith, ints, clamps) }
