use Rattle.std.proofs.Common.{take}
use Rattle.route_law.specs.Right.{IsEnd}
use Rattle.cert_check.specs.Bounds.{IsLeastOf}
use Rattle.cert_check.proofs.bounds.end_of.Given as goal

-- the least of the ends so far
abbrev pub invariant-loop-target : goal.invariant-loop-target
invariant-loop-target l = IsLeastOf (IsEnd (take l.target-index l.targets) l.e) l.least
