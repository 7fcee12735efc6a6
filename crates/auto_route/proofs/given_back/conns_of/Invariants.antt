use Rattle.std.proofs.Common.{◌≡◌, map, take}
use Rattle.route_law.specs.declared.replies.Made1.{Made1}
use Rattle.auto_route.proofs.given_back.conns_of.Given as goal

-- the connections so far were copied
abbrev pub invariant-loop-one : goal.invariant-loop-one
invariant-loop-one l = l.conns ≡ map (λ (m : Made1). m.conn) (take l.one-index l.made)
