use Rattle.std.proofs.Common.{◌+◌, length}
use Rattle.std.specs.Prelude.{sum_by}
use Rattle.net_trace.specs.Flooding.{IsNoPair, IsFlood, StayReached, blank}
use Rattle.net_trace.proofs.flood.Flood.flood.Given as goal

-- the flood goes on from the front alone
abbrev pub invariant-loop-from : goal.invariant-loop-from
invariant-loop-from l = record {
  flood : IsFlood l.pieces l.group IsNoPair l.self.groups.items l.self.front.items;
  stay : StayReached l.initial.self.groups.items l.self.groups.items;
}

-- each piece is taken from the front once, and comes to it when its group becomes known
abbrev pub decreases-loop-from : goal.decreases-loop-from
decreases-loop-from l = sum_by blank l.self.groups.items + length l.self.front.items
