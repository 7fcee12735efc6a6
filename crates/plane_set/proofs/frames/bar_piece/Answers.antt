use Rattle.std.proofs.lemmas.Result.{IfOk-weaker}
use Rattle.plane_core.specs.Labels.{label_of, IsPainted}
use Rattle.geo_rect.specs.declared.ids.Label.TheVariants.{Many}
use Rattle.plane_set.specs.Joins.{IsPieceBarred}
use Rattle.plane_set.proofs.Barring.{barred_part}
use Rattle.plane_set.proofs.Joining.{part_inside}
use Rattle.plane_set.proofs.frames.bar_piece.Goals as goal

pub paint-requires : goal.paint-requires
paint-requires g c =
    part_inside (g.P.Plane.region c.args.plane) c.args.area c.args.piece c.in-Some.part c.in-Some.ensures.some c.requires.inside

pub returns-clause-labels : goal.returns-clause-labels
returns-clause-labels g c =
    let domain = g.P.Plane.region c.args.plane in
    let old = label_of (g.P.Plane.strips c.args.plane) in
    IfOk-weaker c.paint.result
    (λ new. IsPainted domain c.in-Some.part Many old (label_of (g.P.Plane.strips new)))
    (λ new. IsPieceBarred domain c.args.area c.args.piece old (label_of (g.P.Plane.strips new)))
    (λ new h. barred_part domain c.args.area c.args.piece c.in-Some.part old (label_of (g.P.Plane.strips new)) c.in-Some.ensures.some h)
    c.paint.ensures.labels
