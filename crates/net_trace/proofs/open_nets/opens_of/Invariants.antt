use Rattle.net_trace.specs.Listing.{IsSoBelow, IsListed, net_number}
use Rattle.net_trace.specs.Report.{IsListOf, IsOpen, IsEarlierNet}
use Rattle.net_trace.proofs.open_nets.opens_of.Given as goal

-- the open nets so far are listed
abbrev pub invariant-loop-net : goal.invariant-loop-net
invariant-loop-net l = IsListOf IsEarlierNet (IsSoBelow net_number (IsOpen l.board.parts l.pieces (IsListed l.numbers)) l.net) l.opens
