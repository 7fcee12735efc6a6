use Rattle.std.proofs.Common.{All, take}
use Rattle.route_law.specs.Covers.{IsCovered}
use Rattle.route_law.specs.Moves.{arrival_of}
use Rattle.cert_check.proofs.covers.are_covered.Given as goal

-- the arrivals so far are covered
abbrev pub invariant-loop-arrival : goal.invariant-loop-arrival
invariant-loop-arrival l = All (λ e. IsCovered l.targets l.cert (arrival_of e)) (take l.arrival-index l.arrivals)
