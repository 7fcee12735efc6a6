use Rattle.std.proofs.Common.{◌∙◌, List, sym, subst, arith}
use Rattle.plane_core.specs.declared.strips.Strip.{Strip}
use Rattle.plane_core.specs.Choice.{Meets, IsChoice}
use Rattle.plane_core.specs.Labels.{label_of}
use Rattle.plane_set.specs.Joins.{IsPieceJoined}
use Rattle.plane_set.proofs.Joining.{meets_here, still_labelled, joined_here}
use Rattle.plane_set.proofs.joins.paint_shape.Goals as goal

pub join_strip-requires-clause-meets : goal.join_strip-requires-clause-meets
join_strip-requires-clause-meets g c =
    let strips = g.P.Plane.strips c.args.plane in
    let domain = g.P.Plane.region c.args.plane in
    let items = c.as_slice-strip-items.result.now in
    let choice : IsChoice strips (λ s. Meets s.area c.args.area) items = subst (λ (ss : List Strip). IsChoice strips (λ s. Meets s.area c.args.area) ss) (sym c.as_slice-strip-items.ensures) c.in_ok-found.ensures.found in
    meets_here domain c.args.area strips items c.domain-domain.ensures.canonical choice c.loop-strip.strip-index c.strip-item.result c.strip-item.is (omega arith)

pub join_strip-requires-clause-labelled : goal.join_strip-requires-clause-labelled
join_strip-requires-clause-labelled g c =
    let strips = g.P.Plane.strips c.args.plane in
    let domain = g.P.Plane.region c.args.plane in
    let items = c.as_slice-strip-items.result.now in
    let choice : IsChoice strips (λ s. Meets s.area c.args.area) items = subst (λ (ss : List Strip). IsChoice strips (λ s. Meets s.area c.args.area) ss) (sym c.as_slice-strip-items.ensures) c.in_ok-found.ensures.found in
    still_labelled domain c.args.area strips items c.domain-domain.ensures.canonical choice c.loop-strip.strip-index c.strip-item.result c.strip-item.is (omega arith)
    c.args.owner (label_of (g.P.Plane.strips c.loop-strip.painted)) c.requires.inside c.loop-strip.invariant.labels

pub loop-strip-preserved : goal.loop-strip-preserved
loop-strip-preserved g c =
    let strips = g.P.Plane.strips c.args.plane in
    let domain = g.P.Plane.region c.args.plane in
    let items = c.as_slice-strip-items.result.now in
    let choice : IsChoice strips (λ s. Meets s.area c.args.area) items = subst (λ (ss : List Strip). IsChoice strips (λ s. Meets s.area c.args.area) ss) (sym c.as_slice-strip-items.ensures) c.in_ok-found.ensures.found in
    let new = label_of (g.P.Plane.strips c.in_ok-painted.painted) in
    let mid = label_of (g.P.Plane.strips c.loop-strip.painted) in
    let s = c.strip-item.result in
    let step : IsPieceJoined domain c.args.area s.area s.label c.args.owner mid new = subst (λ d. IsPieceJoined d c.args.area s.area s.label c.args.owner mid new) c.loop-strip.invariant.region c.in_ok-painted.ensures.labels in
    record {
      region = c.in_ok-painted.ensures.region ∙ c.loop-strip.invariant.region;
      labels = joined_here domain c.args.area strips items c.domain-domain.ensures.canonical choice c.loop-strip.strip-index s c.strip-item.is (omega arith)
          c.args.owner mid new c.requires.inside c.loop-strip.invariant.labels step;
      canonical = c.in_ok-painted.ensures.canonical;
    }
