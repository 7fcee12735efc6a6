use Rattle.std.proofs.Common.{refl, arith}
use Rattle.route_law.specs.declared.certs.Entry.{Entry}
use Rattle.route_law.specs.Covers.{IsCovered}
use Rattle.route_law.specs.Moves.{arrival_of}
use Rattle.cert_check.proofs.Numbered.{all_read, all_to_end}
use Rattle.cert_check.proofs.covers.are_covered.Goals as goal

pub loop-arrival-preserved : goal.loop-arrival-preserved
loop-arrival-preserved c =
    all_read (λ (e : Entry). IsCovered c.args.targets.now c.args.cert.now (arrival_of e)) c.args.arrivals.now c.loop-arrival.arrival-index c.arrival-item.result (omega arith) c.arrival-item.is c.loop-arrival.invariant
    (c.is_covered.ensures.0 c.if-not-is_covered.false)

pub returns : goal.returns
returns c = (
  λ t. all_to_end (λ (e : Entry). IsCovered c.args.targets.now c.args.cert.now (arrival_of e)) c.args.arrivals.now c.loop-arrival.arrival-index (omega arith) c.loop-arrival.invariant,
  λ h. refl,
)
