use Rattle.std.proofs.Common.{◌≡◌, drop}
use Rattle.line_words.specs.Lines.{counts}
use Rattle.line_words.proofs.lines.counts.Given as goal

abbrev pub invariant-loop-byte : goal.invariant-loop-byte
invariant-loop-byte l = counts (drop l.byte-index l.line) ≡ counts l.line
