use Rattle.std.proofs.Common.{refl, arith}
use Rattle.route_law.specs.declared.certs.Entry.{Entry}
use Rattle.route_law.specs.Moves.{arrival_of}
use Rattle.cert_check.specs.Fronts.{ComesBefore}
use Rattle.cert_check.proofs.Cases.{not_true, not_both}
use Rattle.cert_check.proofs.Covering.{reached_by, reached_by_none}
use Rattle.cert_check.proofs.Numbered.{all_read, all_to_end, read_listed}
use Rattle.cert_check.proofs.covers.is_reached_before.Goals as goal

pub returns-then-comes_before : goal.returns-then-comes_before
returns-then-comes_before c =
    let entries = c.args.entries.now in
    let x = c.e-item.result in (
      λ t. reached_by entries x (arrival_of c.args.arrival) (read_listed entries c.loop-e.e-index x (omega arith) c.e-item.is) (c.comes_before.ensures.0 c.if-comes_before.true),
      λ r. refl,
    )

pub loop-e-preserved : goal.loop-e-preserved
loop-e-preserved c =
    let a = arrival_of c.args.arrival in
    all_read (λ (e : Entry). ComesBefore e a → ⊥) c.args.entries.now c.loop-e.e-index c.e-item.result (omega arith) c.e-item.is c.loop-e.invariant
    (λ r. not_both (c.comes_before.ensures.1 r) c.if-comes_before.false)

pub returns : goal.returns
returns c =
    let a = arrival_of c.args.arrival in (
      λ t. absurd (not_true t),
      λ r. absurd (reached_by_none c.args.entries.now a (all_to_end (λ (e : Entry). ComesBefore e a → ⊥) c.args.entries.now c.loop-e.e-index (omega arith) c.loop-e.invariant) r),
    )
