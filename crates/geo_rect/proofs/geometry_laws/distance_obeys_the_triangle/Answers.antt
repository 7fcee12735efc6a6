use Rattle.geo_rect.proofs.Distances.{distance_triangle}
use Rattle.geo_rect.proofs.geometry_laws.distance_obeys_the_triangle.Goals as goal

pub returns : goal.returns
returns c = distance_triangle
