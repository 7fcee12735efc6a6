use Rattle.std.proofs.Common.{take}
use Rattle.cert_check.specs.Bounds.{IsLeastOf, IsSomeEnd}
use Rattle.cert_check.proofs.bounds.least_end.Given as goal

-- the least of the ends so far
abbrev pub invariant-loop-e : goal.invariant-loop-e
invariant-loop-e l = IsLeastOf (IsSomeEnd l.targets (take l.e-index l.entries)) l.least
