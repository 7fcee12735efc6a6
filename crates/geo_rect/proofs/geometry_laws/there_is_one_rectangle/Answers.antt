use Rattle.geo_rect.proofs.Clamps.{find_clamped, clamped_one}
use Rattle.geo_rect.proofs.Parts.{same_points}
use Rattle.geo_rect.proofs.geometry_laws.there_is_one_rectangle.Goals as goal

pub returns-clause-some_clamped : goal.returns-clause-some_clamped
returns-clause-some_clamped c = find_clamped

pub returns-clause-one_clamped : goal.returns-clause-one_clamped
returns-clause-one_clamped c = clamped_one

pub returns-clause-same_points : goal.returns-clause-same_points
returns-clause-same_points c = same_points
