use Rattle.std.proofs.Common.{◌≡◌, ◌≤ℤ◌, pos, get_or, arith, rules, to_z, of_z, w32, SFits}
use Rattle.std.proofs.lemmas.Int.{ints, to_z-of_z}
use Rattle.rule_check.proofs.Raised.{All-raised, All-whole}
use Rattle.rule_check.proofs.bounds.greatest_of_gaps.Goals as goal

pub loop-gap-preserved : goal.loop-gap-preserved
loop-gap-preserved c =
    let gaps = c.args.gaps.now in
    let i = c.loop-gap.gap-index in
    let gap = get_or gaps i (pos 0) in
    let old = to_z w32 c.loop-gap.most-bits in
    let new = to_z w32 (of_z w32 c.max-most.result) in
    let fits : SFits w32 gap = search rules in
    let read : to_z w32 (of_z w32 gap) ≡ gap = to_z-of_z w32 gap fits in
    let kept : new ≡ c.max-most.result = to_z-of_z w32 c.max-most.result (record { sfits = c.max-most.type_inv }) in
    let raised : old ≤ℤ new = omega (arith, ints, kept, c.max-most.ensures.other_bound) in
    record {
      some = omega (arith, ints, raised, c.loop-gap.invariant.some);
      all = All-raised (λ g. g ≤ℤ old) (λ g. g ≤ℤ new) gaps i (pos 0) c.loop-gap-test.true (λ g l. omega (arith, ints, raised, l)) c.loop-gap.invariant.all (omega (arith, ints, read, kept, c.max-most.ensures.self_bound));
    }

pub returns-clause-all : goal.returns-clause-all
returns-clause-all c =
    All-whole (λ g. g ≤ℤ to_z w32 c.loop-gap.most-bits) c.args.gaps.now c.loop-gap.gap-index (omega (arith, c.loop-gap-test.false)) c.loop-gap.invariant.all
