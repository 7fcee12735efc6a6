use Rattle.std.proofs.Common.{◌≡◌, length}
use Rattle.tile_search.specs.Waits.{IsThinned}
use Rattle.tile_search.proofs.fronts.next_front.Given as goal

-- only pairs that settled fronts cover have been taken out
abbrev pub invariant-loop-key : goal.invariant-loop-key
invariant-loop-key l = record {
  thinned : IsThinned l.table l.fn.queue.pairs l.queue.pairs;
  pushes : l.queue.pushes ≡ l.fn.queue.pushes;
}

abbrev pub decreases-loop-key : goal.decreases-loop-key
decreases-loop-key l = length l.queue.pairs
