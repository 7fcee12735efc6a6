use Rattle.geo_rect.proofs.Nearest.{find_away, away_one}
use Rattle.geo_rect.proofs.Distances.{find_distance, distance_one}
use Rattle.geo_rect.proofs.Reaches.{find_reach, reach_one}
use Rattle.geo_rect.proofs.geometry_laws.there_is_one_number.Goals as goal

pub returns-clause-some_away : goal.returns-clause-some_away
returns-clause-some_away c = find_away

pub returns-clause-one_away : goal.returns-clause-one_away
returns-clause-one_away c = away_one

pub returns-clause-some_distance : goal.returns-clause-some_distance
returns-clause-some_distance c = find_distance

pub returns-clause-one_distance : goal.returns-clause-one_distance
returns-clause-one_distance c = distance_one

pub returns-clause-some_reach : goal.returns-clause-some_reach
returns-clause-some_reach c = find_reach

pub returns-clause-one_reach : goal.returns-clause-one_reach
returns-clause-one_reach c = reach_one
