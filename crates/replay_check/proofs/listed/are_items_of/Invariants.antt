use Rattle.std.proofs.Common.{◌≡◌, take}
use Rattle.route_law.specs.Steps.{items_from}
use Rattle.replay_check.proofs.listed.are_items_of.Given as goal

-- the items so far are the connections so far, with their numbers
abbrev pub invariant-loop-i : goal.invariant-loop-i
invariant-loop-i l = take l.i l.items ≡ items_from 1 (take l.i l.conns)
