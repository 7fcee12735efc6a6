use Rattle.std.proofs.Common.{◌*◌, ◌^◌, ◌≤◌}
use Rattle.strip_moves.specs.Grounds.{ground_of}
use Rattle.tile_search.specs.Waits.{HasStarts}
use Rattle.tile_search.proofs.pushes.push_starts.Given as goal

-- the starts of the source boxes so far are in the queue
abbrev pub invariant-loop-n : goal.invariant-loop-n
invariant-loop-n g l = record {
  starts : HasStarts (ground_of l.board.parts l.planes l.net) l.sources l.targets l.n l.queue.pairs;
  pushes : l.queue.pushes ≤ l.n * 2 ^ 63;
}
