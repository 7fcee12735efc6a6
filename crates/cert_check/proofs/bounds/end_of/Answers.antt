use Rattle.std.proofs.Common.{◌+◌, Option, ℕ, List, take, subst, sym, arith}
use Rattle.std.proofs.lemmas.List.{take_all}
use Rattle.geo_rect.specs.declared.ids.Spot.{Spot}
use Rattle.route_law.specs.Right.{IsEnd}
use Rattle.cert_check.specs.Bounds.{IsLeastOf, IsEndAt}
use Rattle.cert_check.proofs.Leasts.{least_of_either, ends_more}
use Rattle.cert_check.proofs.bounds.end_of.Goals as goal

pub loop-target-preserved : goal.loop-target-preserved
loop-target-preserved c =
    let targets = c.args.targets.now in
    let i = c.loop-target.target-index in
    let x = c.target-item.result in
    let e = c.args.e in
    let P : Option ℕ → Type 0 = λ o. IsLeastOf (IsEnd (take (i + 1) targets) e) o in
    subst P (sym c.lesser-least.ensures)
    (least_of_either (IsEnd (take i targets) e) (IsEndAt x e) (IsEnd (take (i + 1) targets) e) (ends_more targets i x e (omega arith) c.target-item.is) c.loop-target.least c.end_at.result c.loop-target.invariant c.end_at.ensures)

pub returns : goal.returns
returns c =
    let P : List Spot → Type 0 = λ targets. IsLeastOf (IsEnd targets c.args.e) c.loop-target.least in
    subst P (take_all c.loop-target.target-index c.args.targets.now (omega arith)) c.loop-target.invariant
