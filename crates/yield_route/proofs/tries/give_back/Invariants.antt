use Rattle.std.proofs.Common.{◌≡◌, All, take}
use Rattle.yield_route.specs.Named.{IsBackOf}
use Rattle.yield_route.specs.Yielding.{AreBack}
use Rattle.yield_route.proofs.tries.give_back.Given as goal

-- the nets so far were given back what they had
abbrev pub invariant-loop-aside : goal.invariant-loop-aside
invariant-loop-aside g l = record {
  back : AreBack l.fn.first.parts l.fn.first.lists (take l.aside-index l.asides) l.told l.s.lists;
  board : l.s.parts ≡ l.fn.first.parts;
  regular : All (IsBackOf l.fn.first.parts) l.told;
}
