use Rattle.std.proofs.Common.{refl, arith}
use Rattle.route_law.specs.Moves.{arrival_of}
use Rattle.cert_check.specs.Fronts.{IsFarFrom}
use Rattle.cert_check.proofs.Cases.{not_true, not_both}
use Rattle.cert_check.proofs.Covering.{late_by_all, late_for_each}
use Rattle.cert_check.proofs.Numbered.{all_read, all_to_end, read_listed}
use Rattle.cert_check.proofs.covers.is_too_late.Goals as goal

pub returns-then-not-is_far_from : goal.returns-then-not-is_far_from
returns-then-not-is_far_from c =
    let a = arrival_of c.args.arrival in
    let targets = c.args.targets.now in
    let x = c.target-item.result in (
      λ t. absurd (not_true t),
      λ l. absurd (not_both (c.is_far_from.ensures.1 (late_for_each targets c.args.d a x (read_listed targets c.loop-target.target-index x (omega arith) c.target-item.is) l)) c.if-not-is_far_from.true),
    )

pub loop-target-preserved : goal.loop-target-preserved
loop-target-preserved c =
    all_read (IsFarFrom c.args.d (arrival_of c.args.arrival)) c.args.targets.now c.loop-target.target-index c.target-item.result (omega arith) c.target-item.is c.loop-target.invariant (c.is_far_from.ensures.0 c.if-not-is_far_from.false)

pub returns : goal.returns
returns c =
    let a = arrival_of c.args.arrival in (
      λ t. late_by_all c.args.targets.now c.args.d a c.requires.some (all_to_end (IsFarFrom c.args.d a) c.args.targets.now c.loop-target.target-index (omega arith) c.loop-target.invariant),
      λ l. refl,
    )
