use Rattle.std.proofs.Common.{◌≡◌, ◌≤ℤ◌, pos, get_or, arith, rules, to_z, of_z, w32, SFits}
use Rattle.std.proofs.lemmas.Int.{ints, to_z-of_z}
use Rattle.board_parts.specs.declared.parts.Rule.{Rule}
use Rattle.rule_check.proofs.Raised.{All-raised, All-whole}
use Rattle.rule_check.proofs.bounds.greatest_of_rules.Goals as goal

pub loop-rule-preserved : goal.loop-rule-preserved
loop-rule-preserved c =
    let rules_so_far = c.args.rules.now in
    let i = c.loop-rule.rule-index in
    let none : Rule = record { half = pos 0; gap = pos 0 } in
    let gap = (get_or rules_so_far i none).gap in
    let old = to_z w32 c.loop-rule.most-bits in
    let new = to_z w32 (of_z w32 c.max-most.result) in
    let fits : SFits w32 gap = search rules in
    let read : to_z w32 (of_z w32 gap) ≡ gap = to_z-of_z w32 gap fits in
    let kept : new ≡ c.max-most.result = to_z-of_z w32 c.max-most.result (record { sfits = c.max-most.type_inv }) in
    let raised : old ≤ℤ new = omega (arith, ints, kept, c.max-most.ensures.other_bound) in
    record {
      some = omega (arith, ints, raised, c.loop-rule.invariant.some);
      all = All-raised (λ (r : Rule). r.gap ≤ℤ old) (λ (r : Rule). r.gap ≤ℤ new) rules_so_far i none c.loop-rule-test.true (λ r l. omega (arith, ints, raised, l)) c.loop-rule.invariant.all (omega (arith, ints, read, kept, c.max-most.ensures.self_bound));
    }

pub returns-clause-all : goal.returns-clause-all
returns-clause-all c =
    All-whole (λ (r : Rule). r.gap ≤ℤ to_z w32 c.loop-rule.most-bits) c.args.rules.now c.loop-rule.rule-index (omega (arith, c.loop-rule-test.false)) c.loop-rule.invariant.all
