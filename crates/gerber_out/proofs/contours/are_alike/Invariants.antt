use Rattle.std.proofs.Common.{◌≡◌, take}
use Rattle.gerber_out.proofs.contours.are_alike.Given as goal

abbrev pub invariant-loop-i : goal.invariant-loop-i
invariant-loop-i l = take l.i l.points ≡ take l.i l.expected
