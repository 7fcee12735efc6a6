use Rattle.std.proofs.Common.{rules, arith}
use Rattle.flat_plane.proofs.FromParts.{point_from_parts}
use Rattle.flat_plane.proofs.checks.has_point.Goals as goal

pub returns : goal.returns
returns c = (λ _. grind (arith, point_from_parts), λ _. search rules)
