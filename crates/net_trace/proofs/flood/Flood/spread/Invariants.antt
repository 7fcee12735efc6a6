use Rattle.std.proofs.Common.{◌≡◌, ◌+◌, length}
use Rattle.std.specs.Prelude.{Some, sum_by}
use Rattle.net_trace.specs.Flooding.{group_at, IsUntried, IsFlood, StayReached, blank}
use Rattle.net_trace.proofs.flood.Flood.spread.Given as goal

-- the pairs with pieces so far are tried
abbrev pub invariant-loop-to : goal.invariant-loop-to
invariant-loop-to l = record {
  flood : IsFlood l.pieces l.group (IsUntried l.from l.to) l.self.groups.items l.self.front.items;
  from : group_at l.self.groups.items l.from ≡ Some l.group;
  stay : StayReached l.initial.self.groups.items l.self.groups.items;
  less : sum_by blank l.self.groups.items + length l.self.front.items ≡ sum_by blank l.initial.self.groups.items + length l.initial.self.front.items;
}
