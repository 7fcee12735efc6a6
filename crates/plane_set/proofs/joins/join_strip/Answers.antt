use Rattle.std.proofs.lemmas.Result.{IfOk-weaker}
use Rattle.plane_core.specs.Labels.{label_of, IsPainted}
use Rattle.plane_set.specs.Joins.{IsPieceJoined}
use Rattle.plane_set.proofs.Joining.{painted_piece, part_inside}
use Rattle.plane_set.proofs.joins.join_strip.Goals as goal

pub paint-requires : goal.paint-requires
paint-requires g c =
    part_inside (g.P.Plane.region c.args.plane) c.args.area c.args.strip.area c.in-Some-meet.piece c.in-Some-meet.ensures.some c.requires.inside

pub returns-clause-labels : goal.returns-clause-labels
returns-clause-labels g c =
    let domain = g.P.Plane.region c.args.plane in
    let old = label_of (g.P.Plane.strips c.args.plane) in
    let strip = c.args.strip in
    IfOk-weaker c.paint.result
    (λ new. IsPainted domain c.in-Some-meet.piece c.in-Some.label old (label_of (g.P.Plane.strips new)))
    (λ new. IsPieceJoined domain c.args.area strip.area strip.label c.args.owner old (label_of (g.P.Plane.strips new)))
    (λ new h. painted_piece domain c.args.area strip.area strip.label c.args.owner old c.in-Some-meet.piece (label_of (g.P.Plane.strips new)) c.in-Some.label c.in-Some-meet.ensures.some c.in-Some.ensures.some h)
    c.paint.ensures.labels
