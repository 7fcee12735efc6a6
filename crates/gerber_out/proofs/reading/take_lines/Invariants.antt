use Rattle.std.proofs.Common.{◌+◌, ◌≤◌, length}
use Rattle.gerber_out.specs.Reading.{IsPassed}
use Rattle.gerber_out.proofs.reading.take_lines.Given as goal

abbrev pub invariant-loop-rest : goal.invariant-loop-rest
invariant-loop-rest l = record {
  passed : IsPassed l.bytes l.rest l.number l.machine;
  small : l.number + length l.rest ≤ 1 + length l.bytes;
}

abbrev pub decreases-loop-rest : goal.decreases-loop-rest
decreases-loop-rest l = length l.rest
