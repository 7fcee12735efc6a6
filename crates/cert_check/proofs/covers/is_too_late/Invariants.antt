use Rattle.std.proofs.Common.{All, take}
use Rattle.route_law.specs.Moves.{arrival_of}
use Rattle.cert_check.specs.Fronts.{IsFarFrom}
use Rattle.cert_check.proofs.covers.is_too_late.Given as goal

-- the boxes so far are far
abbrev pub invariant-loop-target : goal.invariant-loop-target
invariant-loop-target l = All (IsFarFrom l.d (arrival_of l.arrival)) (take l.target-index l.targets)
