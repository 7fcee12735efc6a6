use Rattle.std.proofs.Common.{◌≡◌, ◌+◌, ◌∙◌, Contains, subst, get_or, rules, arith}
use Rattle.std.proofs.lemmas.List.{get_or_default}
use Rattle.io_edge.proofs.Failing.{failed_calls-stays, failed_calls-rises}
use Rattle.io_edge.proofs.faults.fails_next.Goals as goal

pub returns-in-Some-clause-risen : goal.returns-in-Some-clause-risen
returns-in-Some-clause-risen c = λ t.
    let told = c.in-Some.ensures {u = tt} in
    failed_calls-rises c.args.fails.now c.args.calls (omega (arith, told.0)) (subst (Contains c.args.fails.now) told.1 (c.has_number.ensures.0 t))

pub returns-in-Some-clause-never_falls : goal.returns-in-Some-clause-never_falls
returns-in-Some-clause-never_falls c = failed_calls-stays c.args.fails.now c.args.calls (omega arith)

pub returns-in-None-clause-fails : goal.returns-in-None-clause-fails
returns-in-None-clause-fails c = (
  λ t. absurd (search rules),
  λ hit.
      let at : get_or c.args.fails.now hit.0 0 ≡ c.args.calls + 1 = get_or_default c.args.fails.now hit.0 0 (c.args.calls + 1) hit.1 ∙ hit.2 in
      absurd (omega (arith, c.type_inv.fails hit.0)),
)
