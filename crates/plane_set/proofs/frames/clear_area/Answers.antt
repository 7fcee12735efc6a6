use Rattle.std.proofs.Common.{[], List, subst, sym}
use Rattle.std.proofs.lemmas.Result.{IfOk-weaker}
use Rattle.geo_rect.specs.declared.shapes.Rect.{Rect}
use Rattle.board_model.specs.Labels.{label_among}
use Rattle.plane_core.specs.Labels.{label_of}
use Rattle.plane_set.specs.Families.{rule_in}
use Rattle.plane_set.specs.Joins.{HasNewLabels, IsBarred}
use Rattle.plane_set.specs.Shutting.{AreShutAreas}
use Rattle.plane_set.proofs.Barring.{cleared}
use Rattle.plane_set.proofs.frames.clear_area.Goals as goal

pub returns-clause-labels : goal.returns-clause-labels
returns-clause-labels g c =
    let b = c.args.board.now.parts in
    let rule = rule_in b c.args.family c.args.row c.args.c in
    let domain = g.P.Plane.region c.args.plane in
    let old = label_of (g.P.Plane.strips c.args.plane) in
    let mid = label_of (g.P.Plane.strips c.in_ok-freed.freed) in
    let pieces = c.as_slice.result.now in
    let areas = subst (λ (rs : List Rect). AreShutAreas b rule rs) (sym c.as_slice.ensures) c.in_ok-shut.ensures in
    IfOk-weaker c.bar.result
    (λ new. IsBarred (g.P.Plane.region c.in_ok-freed.freed) c.args.area pieces mid (label_of (g.P.Plane.strips new)))
    (λ new. HasNewLabels domain c.args.area (label_among b rule []) old (label_of (g.P.Plane.strips new)))
    (λ new h.
    cleared b rule domain c.args.area pieces old mid (label_of (g.P.Plane.strips new)) c.requires.board c.requires.inside areas c.in_ok-freed.ensures.labels
    (subst (λ (d : Rect). IsBarred d c.args.area pieces mid (label_of (g.P.Plane.strips new))) c.in_ok-freed.ensures.region h))
    c.bar.ensures.labels
