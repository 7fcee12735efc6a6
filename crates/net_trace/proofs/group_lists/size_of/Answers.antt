use Rattle.std.proofs.Common.{ℕ, ◌+◌, subst, sym, arith}
use Rattle.net_trace.specs.Listing.{IsSoBelow, IsListed}
use Rattle.net_trace.specs.Report.{IsCount}
use Rattle.net_trace.proofs.Grouped.{size_skip, size_next, size_all}
use Rattle.net_trace.proofs.group_lists.size_of.Goals as goal
use Rattle.net_trace.proofs.group_lists.size_of.Goals.{then-number-group, else-number-group}

pub loop-number-preserved : goal.loop-number-preserved
loop-number-preserved c =
    let numbers = c.args.numbers.now in
    let i = c.loop-number.number-index in
    let n = c.loop-number.count in
    let So = IsSoBelow (λ (k : ℕ). k) (λ k. IsListed numbers k c.args.group) (i + 1) in
    let few = c.loop-number.invariant.few in
    elim c.if-number-group.branch [
      | then-number-group w ↦ record { counted = subst (IsCount So) (sym w.count-is) (size_next numbers c.args.group i n (omega arith) w.if-number-group.true c.loop-number.invariant.counted); few = omega (arith, few, w.count-is) }
      | else-number-group w ↦ record { counted = subst (IsCount So) (sym w.count-is) (size_skip numbers c.args.group i n w.if-number-group.false c.loop-number.invariant.counted); few = omega (arith, few, w.count-is) }
    ]

pub returns : goal.returns
returns c = size_all c.args.numbers.now c.args.group c.loop-number.number-index c.loop-number.count (omega arith) c.loop-number.invariant.counted
