use Rattle.geo_rect.proofs.Reaches.{reach_covers, reach_zero}
use Rattle.geo_rect.proofs.geometry_laws.reach_covers.Goals as goal

pub returns-clause-covers : goal.returns-clause-covers
returns-clause-covers c = reach_covers

pub returns-clause-zero : goal.returns-clause-zero
returns-clause-zero c = reach_zero
