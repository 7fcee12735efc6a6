use Rattle.std.proofs.Common.{◌≡◌, ◌+◌, length}
use Rattle.std.specs.Prelude.{sum_by}
use Rattle.zone_fill.specs.Flooding.{IsMarked, IsUntried, IsFlood, StayMarked, StayFlooded, blank}
use Rattle.zone_fill.proofs.flood.Flood.spread.Given as goal

-- the pairs with parts so far are tried
abbrev pub invariant-loop-to : goal.invariant-loop-to
invariant-loop-to l = record {
  flood : IsFlood l.parts (IsUntried l.from l.to) l.self.marks.items l.self.front.items;
  from : IsMarked l.self.marks.items l.from;
  stay : StayMarked l.initial.self.marks.items l.self.marks.items;
  sound : StayFlooded l.parts l.initial.self.marks.items l.self.marks.items;
  less : sum_by blank l.self.marks.items + length l.self.front.items ≡ sum_by blank l.initial.self.marks.items + length l.initial.self.front.items;
}
