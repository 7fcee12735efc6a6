use Rattle.reply_reader.specs.Parts.{counted, IsRead}
use Rattle.reply_reader.proofs.parts.read_counted.Given as goal

-- so many of the parts as the loop has made turns
abbrev pub invariant-loop : goal.invariant-loop
invariant-loop g l = IsRead (counted l.counter (g.T.Readable.piece l.board.parts)) l.bytes l.fn.place l.place l.parts
