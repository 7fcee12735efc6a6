use Rattle.zone_fill.proofs.Fronts.{IsFrontUpTo}
use Rattle.zone_fill.proofs.flood.front_of.Given as goal

-- the marked parts so far are listed
abbrev pub invariant-loop-number : goal.invariant-loop-number
invariant-loop-number l = IsFrontUpTo l.marks l.number l.front.items
