use Rattle.std.proofs.Common.{◌≡◌, ◌+◌, take}
use Rattle.tile_search.specs.Waits.{IsPushed}
use Rattle.tile_search.proofs.pushes.push_entries.Given as goal

-- the entries so far are in the queue
abbrev pub invariant-loop-n : goal.invariant-loop-n
invariant-loop-n l = record {
  pushed : IsPushed l.targets l.fn.queue.pairs l.queue.pairs (take l.n l.entries);
  pushes : l.queue.pushes ≡ l.fn.queue.pushes + l.n;
}
