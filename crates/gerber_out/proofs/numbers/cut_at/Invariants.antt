use Rattle.std.proofs.Common.{take, All, ◌≢◌}
use Rattle.gerber_out.proofs.numbers.cut_at.Given as goal

abbrev pub invariant-loop-i : goal.invariant-loop-i
invariant-loop-i l = All (λ b. b ≢ l.end) (take l.i l.bytes)
