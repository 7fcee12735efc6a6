use Rattle.std.proofs.Common.{take}
use Rattle.reply_reader.specs.Places.{IsOneLine}
use Rattle.reply_reader.proofs.lines.line_length.Given as goal

abbrev pub invariant-loop-i : goal.invariant-loop-i
invariant-loop-i l = IsOneLine (take l.i l.bytes)
