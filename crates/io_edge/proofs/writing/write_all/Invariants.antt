use Rattle.std.proofs.Common.{length, take, ◌-◌, ◌≡◌, ◌≤◌}
use Rattle.io_edge.specs.Streams.{Appends}
use Rattle.io_edge.proofs.writing.write_all.Given as goal

-- the sink has taken the bytes so far
abbrev pub invariant-loop-done : goal.invariant-loop-done
invariant-loop-done g l = record {
  in_bytes : l.done ≤ length l.bytes;
  moved : Appends (g.K.Sink.written l.initial.snk) (g.K.Sink.written l.snk) (take l.done l.bytes);
  never_falls : g.K.Sink.faults l.initial.snk ≤ g.K.Sink.faults l.snk;
  setup : g.K.Sink.setup l.snk ≡ g.K.Sink.setup l.initial.snk;
}

abbrev pub decreases-loop-done : goal.decreases-loop-done
decreases-loop-done g l = length l.bytes - l.done
