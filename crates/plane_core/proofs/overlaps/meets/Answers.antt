use Rattle.std.proofs.Common.{rules, arith}
use Rattle.plane_core.proofs.Sharing.{meets_from_parts}
use Rattle.plane_core.proofs.overlaps.meets.Goals as goal

pub returns : goal.returns
returns c = (λ _. grind (arith, meets_from_parts), λ _. search rules)
