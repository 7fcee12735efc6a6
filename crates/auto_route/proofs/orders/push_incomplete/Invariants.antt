use Rattle.std.proofs.Common.{◌≡◌, ◌++◌, take}
use Rattle.auto_route.specs.Rounds.{incomplete_of}
use Rattle.auto_route.proofs.orders.push_incomplete.Given as goal

-- those of the nets so far were added
abbrev pub invariant-loop-net : goal.invariant-loop-net
invariant-loop-net l = l.next ≡ l.fn.next ++ incomplete_of l.board.parts l.made.lists (take l.net-index l.order)
