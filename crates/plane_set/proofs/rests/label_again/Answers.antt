use Rattle.std.proofs.Common.{◌∙◌, subst, arith}
use Rattle.geo_rect.specs.declared.shapes.Rect.{Rect}
use Rattle.plane_core.specs.Labels.{label_of}
use Rattle.plane_set.specs.Families.{rule_in}
use Rattle.plane_set.specs.Joins.{HasShapeWithin}
use Rattle.plane_set.proofs.Relabelling.{labelled_here}
use Rattle.plane_set.proofs.rests.label_again.Goals as goal

pub loop-shape-preserved : goal.loop-shape-preserved
loop-shape-preserved g c =
    let b = c.args.board.now.parts in
    let rule = rule_in b c.args.family c.args.row c.args.c in
    let domain = g.P.Plane.region c.args.plane in
    let area = c.args.area in
    let old = label_of (g.P.Plane.strips c.args.plane) in
    let mid = label_of (g.P.Plane.strips c.loop-shape.labelled) in
    let new = label_of (g.P.Plane.strips c.in_ok-labelled-2.labelled) in
    let s = c.shape-item.result in
    let step : HasShapeWithin domain area rule s mid new = subst (λ (d : Rect). HasShapeWithin d area rule s mid new) c.loop-shape.invariant.region c.in_ok-labelled-2.ensures.labels in
    record {
      region = c.in_ok-labelled-2.ensures.region ∙ c.loop-shape.invariant.region;
      labels = labelled_here b rule domain area c.args.shapes.now c.loop-shape.shape-index s c.shape-item.is (omega arith) old mid new c.loop-shape.invariant.labels step;
      canonical = c.in_ok-labelled-2.ensures.canonical;
    }
