use Rattle.std.proofs.Common.{rules, arith}
use Rattle.std.proofs.lemmas.Int.{ints}
use Rattle.plane_core.proofs.Sharing.{common_from_ends}
use Rattle.plane_core.proofs.overlaps.have_common.Goals as goal

pub returns : goal.returns
returns c = (λ _. common_from_ends c.args.i c.args.j (omega (arith, ints)) (omega (arith, ints)), λ _. search rules)
