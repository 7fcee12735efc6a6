use Rattle.std.proofs.Common.{◌≡◌, map, take}
use Rattle.yield_route.specs.Yielding.{aside_of}
use Rattle.yield_route.proofs.asides.put_aside.Given as goal

-- those of the nets so far
abbrev pub invariant-loop-net : goal.invariant-loop-net
invariant-loop-net l = l.asides ≡ map (aside_of l.made.lists) (take l.net-index l.nets)
