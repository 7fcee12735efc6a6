use Rattle.std.proofs.Common.{ℕ, ◌≤◌}
use Rattle.net_trace.specs.Listing.{IsSoBelow, IsListed}
use Rattle.net_trace.specs.Report.{IsCount}
use Rattle.net_trace.proofs.group_lists.size_of.Given as goal

-- the pieces of the group so far are counted
abbrev pub invariant-loop-number : goal.invariant-loop-number
invariant-loop-number l = record {
  counted : IsCount (IsSoBelow (λ (k : ℕ). k) (λ k. IsListed l.numbers k l.group) l.number-index) l.count;
  few : l.count ≤ l.number-index;
}
