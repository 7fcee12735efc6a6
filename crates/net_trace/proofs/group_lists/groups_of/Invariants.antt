use Rattle.net_trace.specs.Listing.{IsSoBelow, IsListed, group_number}
use Rattle.net_trace.specs.Report.{IsListOf, IsGroup, IsEarlierGroup}
use Rattle.net_trace.proofs.group_lists.groups_of.Given as goal

-- the groups whose first pieces come so far are listed
abbrev pub invariant-loop-first : goal.invariant-loop-first
invariant-loop-first l = IsListOf IsEarlierGroup (IsSoBelow group_number (IsGroup (IsListed l.numbers)) l.first) l.groups
