use Rattle.std.proofs.Common.{◌≡◌}
use Rattle.auto_route.proofs.Ordering.{nets_before}
use Rattle.auto_route.proofs.orders.text_order.Given as goal

-- the nets before this one were added
abbrev pub invariant-loop-number : goal.invariant-loop-number
invariant-loop-number l = l.order ≡ nets_before l.number
