use Rattle.std.proofs.Common.{rules, arith}
use Rattle.plane_core.proofs.Sharing.{left_of_from_parts}
use Rattle.plane_core.proofs.sides.is_left_of.Goals as goal

pub returns : goal.returns
returns c = (λ _. grind (arith, left_of_from_parts), λ _. search rules)
