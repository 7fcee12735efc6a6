use Rattle.geo_rect.proofs.Clamps.{clamped_detour, clamped_level}
use Rattle.geo_rect.proofs.geometry_laws.clamping_loses_nothing.Goals as goal

pub returns-clause-passing : goal.returns-clause-passing
returns-clause-passing c = clamped_detour

pub returns-clause-level : goal.returns-clause-level
returns-clause-level c = clamped_level
