use Rattle.std.proofs.Common.{◌∙◌, ap, List, [], ◌∷◌, ◌++◌}
use Rattle.geo_rect.specs.declared.ids.Label.TheVariants.{Free}
use Rattle.plane_core.specs.declared.strips.Strip.{Strip}
use Rattle.flat_plane.proofs.KeptFacts.{new_kept}
use Rattle.flat_plane.proofs.planes.FlatPlanePlane.new.Goals as goal

pub invariant_of-result : goal.invariant_of-result
invariant_of-result c =
    let F : List Strip → List Strip = λ l. l ++ record { area = c.args.domain; label = Free } ∷ [] in
    new_kept c.args.domain c.push.new.self c.requires (c.in_ok-push.ensures.ok ∙ ap F c.new-strips.ensures)
