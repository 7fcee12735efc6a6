use Rattle.std.proofs.Common.{◌≡◌, ℕ, ◌<◌, []}
use Rattle.net_trace.specs.Flooding.{IsReached, IsNoPair, IsFlood}
use Rattle.net_trace.proofs.flood.groups.Given as goal

-- the groups of all pieces so far are known
abbrev pub invariant-loop-first : goal.invariant-loop-first
invariant-loop-first l = record {
  flood : IsFlood l.pieces l.first IsNoPair l.flood.groups.items l.flood.front.items;
  empty : l.flood.front.items ≡ [];
  before : (i : ℕ) → i < l.first → IsReached l.flood.groups.items i;
}
