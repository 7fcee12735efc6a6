use Rattle.geo_rect.proofs.Parts.{lies_in_points, bounded_within}
use Rattle.geo_rect.proofs.geometry_laws.parts_lie_within.Goals as goal

pub returns-clause-points : goal.returns-clause-points
returns-clause-points c = lies_in_points

pub returns-clause-bounded : goal.returns-clause-bounded
returns-clause-bounded c = bounded_within
