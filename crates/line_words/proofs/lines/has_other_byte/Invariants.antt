use Rattle.std.proofs.Common.{◌≡◌, drop}
use Rattle.std.specs.List.{list_any}
use Rattle.line_words.specs.Lines.{is_other_byte}
use Rattle.line_words.proofs.lines.has_other_byte.Given as goal

abbrev pub invariant-loop-byte : goal.invariant-loop-byte
invariant-loop-byte l = list_any is_other_byte (drop l.byte-index l.line) ≡ list_any is_other_byte l.line
