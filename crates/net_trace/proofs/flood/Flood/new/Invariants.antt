use Rattle.std.proofs.Common.{◌≡◌}
use Rattle.std.specs.Prelude.{replicate, None}
use Rattle.net_trace.proofs.flood.Flood.new.Given as goal

-- so many groups are listed, and none is known
abbrev pub invariant-loop-piece : goal.invariant-loop-piece
invariant-loop-piece l = l.groups.items ≡ replicate l._piece None
