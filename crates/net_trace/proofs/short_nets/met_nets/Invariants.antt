use Rattle.net_trace.specs.Listing.{IsListed, AreMet}
use Rattle.net_trace.proofs.short_nets.met_nets.Given as goal

-- the nets of the pieces so far are told
abbrev pub invariant-loop-number : goal.invariant-loop-number
invariant-loop-number l = AreMet l.number l.pieces (IsListed l.numbers) l.held l.nets l.met.items
