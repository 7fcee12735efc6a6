use Rattle.geo_rect.proofs.Squares.{grown-square}
use Rattle.geo_rect.proofs.geometry_laws.grown_serves_squares.Goals as goal

pub returns : goal.returns
returns c = grown-square
