use Rattle.net_trace.specs.Listing.{IsListed, IsShortBefore, pair_of}
use Rattle.net_trace.specs.Report.{IsListOf, IsEarlierPair}
use Rattle.net_trace.proofs.short_nets.push_shorts.Given as goal

-- the pairs of shorted nets before this one are listed
abbrev pub invariant-loop-other : goal.invariant-loop-other
invariant-loop-other l = IsListOf IsEarlierPair (IsShortBefore l.pieces (IsListed l.numbers) (pair_of l.net.0 l.other)) l.shorts
