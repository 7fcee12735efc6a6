use Rattle.std.proofs.Common.{◌≡◌, false}
use Rattle.std.specs.Prelude.{replicate}
use Rattle.net_trace.proofs.short_nets.no_nets.Given as goal

-- so many nets are listed
abbrev pub invariant-loop-net : goal.invariant-loop-net
invariant-loop-net l = l.met.items ≡ replicate l._net false
