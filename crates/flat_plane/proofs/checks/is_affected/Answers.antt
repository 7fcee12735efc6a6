use Rattle.std.proofs.Common.{rules, arith}
use Rattle.flat_plane.proofs.FromParts.{affected_from_parts}
use Rattle.flat_plane.proofs.checks.is_affected.Goals as goal

pub returns : goal.returns
returns c = (λ _. grind (arith, affected_from_parts), λ _. search rules)
