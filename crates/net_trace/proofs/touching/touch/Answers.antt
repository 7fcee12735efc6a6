use Rattle.std.proofs.Common.{subst, sym, refl, arith}
use Rattle.std.proofs.lemmas.Bool.{false≢true}
use Rattle.std.specs.Prelude.{Any}
use Rattle.std.proofs.lemmas.List.Elements.{All-more}
use Rattle.geo_rect.specs.declared.ids.Spot.{Spot}
use Rattle.net_trace.specs.Touching.{SharePoint}
use Rattle.net_trace.proofs.Sharing.{touch_here, touch_nowhere}
use Rattle.net_trace.proofs.touching.touch.Goals as goal

pub returns-then-shares_with_any : goal.returns-then-shares_with_any
returns-then-shares_with_any c =
    (λ t. touch_here c.args.a.now c.args.b.now c.as_slice-spot-items.result.now c.as_slice.result.now c.loop-spot.spot-index c.spot-item.result c.as_slice-spot-items.ensures c.as_slice.ensures (omega arith) c.spot-item.is (c.if-shares_with_any.ensures.0 refl), λ h. refl)

pub loop-spot-preserved : goal.loop-spot-preserved
loop-spot-preserved c =
    let s = c.spot-item.result in
    let none = λ (h : Any (SharePoint s) c.args.b.now.area). false≢true (c.if-shares_with_any.ensures.1 (subst (Any (SharePoint s)) (sym c.as_slice.ensures) h)) in
    All-more (λ (t : Spot). Any (SharePoint t) c.args.b.now.area → ⊥) c.as_slice-spot-items.result.now c.loop-spot.spot-index s (omega arith) c.loop-spot.invariant
    (subst (λ (t : Spot). Any (SharePoint t) c.args.b.now.area → ⊥) c.spot-item.is none)

pub returns : goal.returns
returns c =
    (λ t. absurd (false≢true t), λ h. absurd (touch_nowhere c.args.a.now c.args.b.now c.as_slice-spot-items.result.now c.loop-spot.spot-index c.as_slice-spot-items.ensures (omega arith) c.loop-spot.invariant h))
