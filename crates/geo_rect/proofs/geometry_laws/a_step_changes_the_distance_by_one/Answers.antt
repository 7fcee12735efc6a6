use Rattle.geo_rect.proofs.Distances.{step_grows, step_falls}
use Rattle.geo_rect.proofs.geometry_laws.a_step_changes_the_distance_by_one.Goals as goal

pub returns-clause-grows : goal.returns-clause-grows
returns-clause-grows c = step_grows

pub returns-clause-falls : goal.returns-clause-falls
returns-clause-falls c = step_falls
