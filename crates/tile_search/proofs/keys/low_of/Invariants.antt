use Rattle.std.proofs.Common.{◌^◌, ◌≤◌, take}
use Rattle.tile_search.proofs.Lows.{IsLowSoFar}
use Rattle.tile_search.proofs.keys.low_of.Given as goal

-- the least distance to the boxes so far
abbrev pub invariant-loop-target : goal.invariant-loop-target
invariant-loop-target l = record {
  low : IsLowSoFar l.targets (take l.target-index l.targets) l.front l.low;
  small : l.low ≤ 2 ^ 27;
}
