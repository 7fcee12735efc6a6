use Rattle.std.proofs.Common.{◌≡◌, ◌+◌, ◌-◌, ◌≤◌, length}
use Rattle.std.specs.Option.{option_map}
use Rattle.board_reader.specs.Splits.{split_of}
use Rattle.board_reader.proofs.Cutting.{counted_after}
use Rattle.board_reader.proofs.splits.split_check.Given as goal

abbrev pub invariant-loop-rest : goal.invariant-loop-rest
invariant-loop-rest l = record {
  same : option_map (counted_after (length l.bytes - length l.rest) l.passed) (split_of l.rest) ≡ split_of l.bytes;
  small : l.passed + length l.rest ≤ length l.bytes;
}

abbrev pub decreases-loop-rest : goal.decreases-loop-rest
decreases-loop-rest l = length l.rest
