use Rattle.std.proofs.Common.{arith}
use Rattle.std.proofs.lemmas.Int.{ints, clamps}
use Rattle.geo_rect.proofs.Same.{same_interval}
use Rattle.board_model.proofs.segments.stretch.Goals as goal

pub invariant_of-result : goal.invariant_of-result
invariant_of-result c = record { ordered = omega (arith, ints, clamps) }

pub returns : goal.returns
returns c = same_interval _ _ (omega (arith, ints, clamps)) (omega (arith, ints, clamps))
