use Rattle.geo_rect.proofs.Clamps.{clamped_nearest, clamped_lies_in}
use Rattle.geo_rect.proofs.geometry_laws.clamping_gives_the_nearest.Goals as goal

pub returns-clause-nearest : goal.returns-clause-nearest
returns-clause-nearest c = clamped_nearest

pub returns-clause-inside : goal.returns-clause-inside
returns-clause-inside c = clamped_lies_in
