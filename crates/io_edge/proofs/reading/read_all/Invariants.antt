use Rattle.std.proofs.Common.{length, ◌+◌, ◌-◌, ◌≡◌, ◌≤◌}
use Rattle.io_edge.specs.Streams.{Takes}
use Rattle.io_edge.proofs.reading.read_all.Given as goal

-- the list is what the source gave, at least one byte a turn
abbrev pub invariant-loop-taken : goal.invariant-loop-taken
invariant-loop-taken g l = record {
  moved : Takes (g.S.Source.left l.initial.src) (g.S.Source.left l.src) l.taken;
  in_limit : length l.taken ≤ l.limit;
  never_falls : g.S.Source.faults l.initial.src ≤ g.S.Source.faults l.src;
  few_turns : g.S.Source.turns l.src ≤ g.S.Source.turns l.initial.src + length l.taken;
  setup : g.S.Source.setup l.src ≡ g.S.Source.setup l.initial.src;
}

abbrev pub decreases-loop-taken : goal.decreases-loop-taken
decreases-loop-taken g l = l.limit - length l.taken
