use Rattle.std.proofs.Common.{◌≡◌, take}
use Rattle.replay_check.proofs.listed.are_same.Given as goal

-- the items so far are the same
abbrev pub invariant-loop-i : goal.invariant-loop-i
invariant-loop-i g l = take l.i l.a ≡ take l.i l.b
