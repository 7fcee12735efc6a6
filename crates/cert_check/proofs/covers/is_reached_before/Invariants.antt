use Rattle.std.proofs.Common.{All, take}
use Rattle.route_law.specs.Moves.{arrival_of}
use Rattle.cert_check.specs.Fronts.{ComesBefore}
use Rattle.cert_check.proofs.covers.is_reached_before.Given as goal

-- no entry so far comes before
abbrev pub invariant-loop-e : goal.invariant-loop-e
invariant-loop-e l = All (λ e. ComesBefore e (arrival_of l.arrival) → ⊥) (take l.e-index l.entries)
