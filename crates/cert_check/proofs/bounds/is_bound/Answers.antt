use Rattle.std.proofs.Common.{Option, ℕ, List, subst}
use Rattle.route_law.specs.declared.certs.Entry.{Entry}
use Rattle.route_law.specs.Right.{IsBoundOf}
use Rattle.cert_check.specs.Bounds.{IsLeastOf, IsSomeEnd}
use Rattle.cert_check.proofs.Leasts.{least_of_one, bound_from_least, least_from_bound}
use Rattle.cert_check.proofs.bounds.is_bound.Goals as goal

pub returns : goal.returns
returns c =
    let targets = c.args.targets.now in
    let entries = c.args.cert.now.entries in
    let bound = c.args.cert.now.bound in
    let found = c.least_end.result in
    let P : List Entry → Type 0 = λ es. IsLeastOf (IsSomeEnd targets es) found in
    let l = subst P c.as_slice.ensures c.least_end.ensures in
    let Q : Option ℕ → Type 0 = λ o. IsBoundOf targets entries o in (
      λ t. subst Q (c.same_number.ensures.0 t) (bound_from_least targets entries found l),
      λ h. c.same_number.ensures.1 (least_of_one (IsSomeEnd targets entries) found bound l (least_from_bound targets entries bound h)),
    )
