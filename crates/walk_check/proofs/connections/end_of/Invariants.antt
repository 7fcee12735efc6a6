use Rattle.std.proofs.Common.{◌≡◌, drop}
use Rattle.route_law.specs.Walks.{last_node}
use Rattle.walk_check.proofs.connections.end_of.Given as goal

-- from here the legs that are left lead to the end
abbrev pub invariant-loop-leg : goal.invariant-loop-leg
invariant-loop-leg l = last_node l.end (drop l.leg-index l.leg-items) ≡ last_node l.conn.start l.conn.legs
