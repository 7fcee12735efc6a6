use Rattle.std.proofs.lemmas.Result.{IfOk-weaker}
use Rattle.plane_core.specs.Labels.{label_of}
use Rattle.plane_set.specs.Families.{rule_in}
use Rattle.plane_set.specs.Joins.{HasShapeWithin, IsJoined}
use Rattle.plane_set.proofs.Adding.{missed_within, apart_within, joined_within}
use Rattle.plane_set.proofs.Joining.{part_inside}
use Rattle.plane_set.proofs.adds.add_within.Goals as goal

pub returns-in-None-clause-labels : goal.returns-in-None-clause-labels
returns-in-None-clause-labels g c =
    missed_within (rule_in c.args.board.now.parts c.args.family c.args.row c.args.c) c.args.s.now
    (g.P.Plane.region c.args.plane) c.args.area (label_of (g.P.Plane.strips c.args.plane))
    (λ p _ h. c.in-None.ensures.none p h)

pub returns-in-None-meet-clause-labels : goal.returns-in-None-meet-clause-labels
returns-in-None-meet-clause-labels g c =
    apart_within (rule_in c.args.board.now.parts c.args.family c.args.row c.args.c) c.args.s.now
    (g.P.Plane.region c.args.plane) c.args.area c.in-Some.hit (label_of (g.P.Plane.strips c.args.plane))
    c.in-Some.ensures.some c.in-None-meet.ensures.none

pub paint_shape-requires : goal.paint_shape-requires
paint_shape-requires g c = record {
  inside = part_inside (g.P.Plane.region c.args.plane) c.args.area c.in-Some.hit c.in-Some-meet.piece c.in-Some-meet.ensures.some c.requires.inside;
}

pub returns-in-Some-meet-clause-labels : goal.returns-in-Some-meet-clause-labels
returns-in-Some-meet-clause-labels g c =
    let rule = rule_in c.args.board.now.parts c.args.family c.args.row c.args.c in
    let domain = g.P.Plane.region c.args.plane in
    let old = label_of (g.P.Plane.strips c.args.plane) in
    IfOk-weaker c.paint_shape.result
    (λ new. IsJoined domain c.in-Some-meet.piece c.args.s.now.owner old (label_of (g.P.Plane.strips new)))
    (λ new. HasShapeWithin domain c.args.area rule c.args.s.now old (label_of (g.P.Plane.strips new)))
    (λ new h. joined_within rule c.args.s.now domain c.args.area c.in-Some.hit c.in-Some-meet.piece old (label_of (g.P.Plane.strips new)) c.requires.inside c.in-Some.ensures.some c.in-Some-meet.ensures.some h)
    c.paint_shape.ensures.labels
