use Rattle.std.proofs.Common.{subst}
use Rattle.geo_rect.specs.declared.shapes.Rect.{Rect}
use Rattle.geo_rect.specs.Images.{IsClamped}
use Rattle.geo_rect.specs.Plane.{lone}
use Rattle.geo_rect.proofs.Clamps.{clamped_nearest}
use Rattle.path_trace.proofs.points.nearest.Goals as goal

pub returns-clause-away : goal.returns-clause-away
returns-clause-away c =
    let at = c.clamp.result in
    let p = c.args.p in
    let h : IsClamped (lone p) c.args.area at = subst (λ (r : Rect). IsClamped r c.args.area at) c.lone.ensures c.clamp.ensures in
    (clamped_nearest c.args.area at p c.corner.result h c.corner.ensures).1
