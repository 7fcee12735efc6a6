use Rattle.plane_set.specs.Drawings.{drawing_by}
use Rattle.plane_set.specs.Families.{rule_in}
use Rattle.plane_set.specs.Relabelled.{IsRelabelled}
use Rattle.plane_set.proofs.Adding.{if_ok_three}
use Rattle.plane_set.proofs.Relabelling.{area_inside, relabelled_nowhere, relabelled_apart, relabelled_area}
use Rattle.plane_set.proofs.rests.rest_in_plane.Goals as goal

pub returns-in-None : goal.returns-in-None
returns-in-None g c =
    relabelled_nowhere c.args.board.now.parts (rule_in c.args.board.now.parts c.args.family c.args.row c.args.c) c.args.gone.now c.args.shapes.now
    (drawing_by g.P.Plane.region g.P.Plane.strips c.args.plane) c.domain-domain.ensures.canonical
    (λ p _ h. c.in-None.ensures.none p h)

pub returns-in-None-meet : goal.returns-in-None-meet
returns-in-None-meet g c =
    relabelled_apart c.args.board.now.parts (rule_in c.args.board.now.parts c.args.family c.args.row c.args.c) c.args.gone.now c.args.shapes.now
    (drawing_by g.P.Plane.region g.P.Plane.strips c.args.plane) c.domain-domain.result c.in-Some.hit
    c.domain-domain.ensures.domain c.domain-domain.ensures.canonical c.in-Some.ensures.some c.in-None-meet.ensures.none

pub label_again-requires-clause-inside : goal.label_again-requires-clause-inside
label_again-requires-clause-inside g c =
    area_inside c.domain-domain.result (g.P.Plane.region c.args.plane) c.in-Some.hit c.in-Some-meet.area c.domain-domain.ensures.domain c.in-Some-meet.ensures.some

pub returns-in-Some-meet : goal.returns-in-Some-meet
returns-in-Some-meet g c =
    let b = c.args.board.now.parts in
    let rule = rule_in b c.args.family c.args.row c.args.c in
    let draw = drawing_by g.P.Plane.region g.P.Plane.strips in
    if_ok_three c.label_again.result _ _ _ (λ new. IsRelabelled b rule c.args.gone.now c.args.shapes.now (draw c.args.plane) (draw new))
    (λ new region labels plane.
    relabelled_area b rule c.args.gone.now c.args.shapes.now (draw c.args.plane) (draw new) c.domain-domain.result c.in-Some.hit c.in-Some-meet.area
    c.domain-domain.ensures.domain c.in-Some.ensures.some c.in-Some-meet.ensures.some region labels plane)
    c.label_again.ensures.region c.label_again.ensures.labels c.label_again.ensures.canonical
