use Rattle.geo_rect.proofs.Distances.{far_detour}
use Rattle.geo_rect.proofs.geometry_laws.a_far_detour_is_long.Goals as goal

pub returns : goal.returns
returns c = far_detour
