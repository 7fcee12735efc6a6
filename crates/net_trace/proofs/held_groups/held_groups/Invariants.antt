use Rattle.net_trace.specs.Listing.{IsListed}
use Rattle.net_trace.specs.Report.{IsListOf, HasPiece, Differ}
use Rattle.net_trace.proofs.held_groups.held_groups.Given as goal

-- the groups of the net's pieces so far are listed
abbrev pub invariant-loop-number : goal.invariant-loop-number
invariant-loop-number l = IsListOf Differ (HasPiece l.number l.pieces (IsListed l.numbers) l.net) l.held
