use Rattle.std.proofs.Common.{◌+◌, Option, ℕ, List, take, subst, sym, arith}
use Rattle.std.proofs.lemmas.List.{take_all}
use Rattle.route_law.specs.declared.certs.Entry.{Entry}
use Rattle.route_law.specs.Right.{IsEnd}
use Rattle.cert_check.specs.Bounds.{IsLeastOf, IsSomeEnd}
use Rattle.cert_check.proofs.Leasts.{least_of_either, some_ends_more}
use Rattle.cert_check.proofs.bounds.least_end.Goals as goal

pub loop-e-preserved : goal.loop-e-preserved
loop-e-preserved c =
    let targets = c.args.targets.now in
    let entries = c.args.entries.now in
    let i = c.loop-e.e-index in
    let x = c.e-item.result in
    let P : Option ℕ → Type 0 = λ o. IsLeastOf (IsSomeEnd targets (take (i + 1) entries)) o in
    subst P (sym c.lesser-least.ensures)
    (least_of_either (IsSomeEnd targets (take i entries)) (IsEnd targets x) (IsSomeEnd targets (take (i + 1) entries)) (some_ends_more targets entries i x (omega arith) c.e-item.is) c.loop-e.least c.end_of.result c.loop-e.invariant c.end_of.ensures)

pub returns : goal.returns
returns c =
    let P : List Entry → Type 0 = λ entries. IsLeastOf (IsSomeEnd c.args.targets.now entries) c.loop-e.least in
    subst P (take_all c.loop-e.e-index c.args.entries.now (omega arith)) c.loop-e.invariant
