use Rattle.std.proofs.Common.{◌≡◌}
use Rattle.auto_route.proofs.Ripping.{ripped}
use Rattle.auto_route.proofs.rips.rip_all.Given as goal

-- the connections of the nets before this one were removed
abbrev pub invariant-loop-number : goal.invariant-loop-number
invariant-loop-number g l = record {
  board : l.session.parts ≡ l.fn.s.parts;
  lists : l.session.lists ≡ ripped l.number l.fn.s.lists;
}
