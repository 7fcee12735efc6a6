use Rattle.geo_rect.proofs.Distances.{distance_zero, distance_sym, away_as_distance}
use Rattle.geo_rect.proofs.geometry_laws.distance_is_a_distance.Goals as goal

pub returns-clause-zero : goal.returns-clause-zero
returns-clause-zero c = distance_zero

pub returns-clause-symmetric : goal.returns-clause-symmetric
returns-clause-symmetric c = distance_sym

pub returns-clause-to_a_point : goal.returns-clause-to_a_point
returns-clause-to_a_point c = away_as_distance
