use Rattle.std.proofs.Common.{◌+◌, length}
use Rattle.std.specs.Prelude.{sum_by}
use Rattle.zone_fill.specs.Flooding.{IsNoPair, IsFlood, StayMarked, StayFlooded, blank}
use Rattle.zone_fill.proofs.flood.Flood.run.Given as goal

-- the flood goes on from the front alone
abbrev pub invariant-loop-from : goal.invariant-loop-from
invariant-loop-from l = record {
  flood : IsFlood l.parts IsNoPair l.self.marks.items l.self.front.items;
  stay : StayMarked l.initial.self.marks.items l.self.marks.items;
  sound : StayFlooded l.parts l.initial.self.marks.items l.self.marks.items;
}

-- each part is taken from the front once, and comes to it when it is marked
abbrev pub decreases-loop-from : goal.decreases-loop-from
decreases-loop-from l = sum_by blank l.self.marks.items + length l.self.front.items
