use Rattle.std.proofs.Common.{take, All, ◌≢◌}
use Rattle.reply_reader.proofs.words.next_word.Given as goal

abbrev pub invariant-loop-i : goal.invariant-loop-i
invariant-loop-i l = All (λ b. b ≢ 32) (take l.i l.line)
