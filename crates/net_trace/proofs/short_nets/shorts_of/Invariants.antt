use Rattle.net_trace.specs.Listing.{IsListed, IsShortBefore, pair_of}
use Rattle.net_trace.specs.Report.{IsListOf, IsEarlierPair}
use Rattle.net_trace.proofs.short_nets.shorts_of.Given as goal

-- the pairs of shorted nets whose earlier nets come so far are listed
abbrev pub invariant-loop-net : goal.invariant-loop-net
invariant-loop-net l = IsListOf IsEarlierPair (IsShortBefore l.pieces (IsListed l.numbers) (pair_of l.net 0)) l.shorts
