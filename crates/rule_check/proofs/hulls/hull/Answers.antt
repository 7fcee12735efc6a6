use Rattle.std.proofs.Common.{subst, arith}
use Rattle.board_model.specs.declared.shapes.Shape.{Shape}
use Rattle.geo_rect.specs.Plane.{LiesIn}
use Rattle.rule_check.proofs.Raised.{All-raised, All-whole}
use Rattle.rule_check.proofs.Skips.{lies_in-trans}
use Rattle.rule_check.proofs.hulls.hull.Goals as goal

pub loop-shape-preserved : goal.loop-shape-preserved
loop-shape-preserved c =
    let old = c.loop-shape.hull in
    let new = c.joined-hull.result in
    let s = c.shape-item.result in
    All-raised (λ (t : Shape). LiesIn t.area old) (λ (t : Shape). LiesIn t.area new) c.args.run.now c.loop-shape.shape-index s (omega (arith, c.loop-shape-test.true)) (λ t l. lies_in-trans t.area old new l c.joined-hull.ensures.first) c.loop-shape.invariant
    (subst (λ (t : Shape). LiesIn t.area new) c.shape-item.is c.joined-hull.ensures.second)

pub returns : goal.returns
returns c =
    All-whole (λ (t : Shape). LiesIn t.area c.loop-shape.hull) c.args.run.now c.loop-shape.shape-index (omega (arith, c.loop-shape-test.false)) c.loop-shape.invariant
