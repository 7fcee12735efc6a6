use Rattle.std.proofs.Common.{◌∙◌, subst, arith}
use Rattle.geo_rect.specs.declared.shapes.Rect.{Rect}
use Rattle.plane_core.specs.Labels.{label_of}
use Rattle.plane_set.specs.Joins.{IsPieceBarred}
use Rattle.plane_set.proofs.Barring.{barred_here}
use Rattle.plane_set.proofs.frames.bar.Goals as goal

pub loop-piece-preserved : goal.loop-piece-preserved
loop-piece-preserved g c =
    let domain = g.P.Plane.region c.args.plane in
    let area = c.args.area in
    let old = label_of (g.P.Plane.strips c.args.plane) in
    let mid = label_of (g.P.Plane.strips c.loop-piece.barred) in
    let new = label_of (g.P.Plane.strips c.in_ok-barred.barred) in
    let r = c.piece-item.result in
    let step : IsPieceBarred domain area r mid new = subst (λ (d : Rect). IsPieceBarred d area r mid new) c.loop-piece.invariant.region c.in_ok-barred.ensures.labels in
    record {
      region = c.in_ok-barred.ensures.region ∙ c.loop-piece.invariant.region;
      labels = barred_here domain area old c.requires c.args.pieces.now c.loop-piece.piece-index r c.piece-item.is (omega arith) mid new c.loop-piece.invariant.labels step;
      canonical = c.in_ok-barred.ensures.canonical;
    }
