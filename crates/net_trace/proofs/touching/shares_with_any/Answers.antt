use Rattle.std.proofs.Common.{subst, sym, refl, arith}
use Rattle.std.proofs.lemmas.Bool.{false≢true}
use Rattle.std.proofs.lemmas.List.Elements.{All-more}
use Rattle.geo_rect.specs.declared.ids.Spot.{Spot}
use Rattle.net_trace.specs.Touching.{SharePoint}
use Rattle.net_trace.proofs.Sharing.{none_has}
use Rattle.net_trace.proofs.touching.shares_with_any.Goals as goal

pub returns-then-share_point : goal.returns-then-share_point
returns-then-share_point c =
    (λ t. (c.loop-other.other-index, c.other-item.result, omega arith, sym c.other-item.is, c.if-share_point.ensures.0 refl), λ a. refl)

pub loop-other-preserved : goal.loop-other-preserved
loop-other-preserved c =
    All-more (λ (t : Spot). SharePoint c.args.spot t → ⊥) c.args.area.now c.loop-other.other-index c.other-item.result (omega arith) c.loop-other.invariant
    (subst (λ (t : Spot). SharePoint c.args.spot t → ⊥) c.other-item.is (λ h. false≢true (c.if-share_point.ensures.1 h)))

pub returns : goal.returns
returns c =
    (λ t. absurd (false≢true t), λ a. absurd (none_has (SharePoint c.args.spot) c.args.area.now c.loop-other.other-index (omega arith) c.loop-other.invariant a))
