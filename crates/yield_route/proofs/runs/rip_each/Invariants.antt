use Rattle.std.proofs.Common.{◌≡◌, All, take}
use Rattle.route_law.specs.Steps.{IsRunFrom}
use Rattle.yield_route.specs.Named.{IsRippedOf}
use Rattle.yield_route.specs.Yielding.{rip_replies, rips_of}
use Rattle.yield_route.proofs.runs.rip_each.Given as goal

-- the nets so far are ripped up
abbrev pub invariant-loop-net : goal.invariant-loop-net
invariant-loop-net g l = record {
  run : IsRunFrom l.fn.first.parts l.fn.first.lists (rips_of (take l.net-index l.nets)) (rip_replies l.told) l.s.lists;
  board : l.s.parts ≡ l.fn.first.parts;
  regular : All (IsRippedOf l.fn.first.parts) l.told;
}
