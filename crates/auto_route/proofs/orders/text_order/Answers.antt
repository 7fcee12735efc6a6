use Rattle.auto_route.proofs.Ordering.{nets_before-more}
use Rattle.auto_route.proofs.orders.text_order.Goals as goal

pub loop-number-preserved : goal.loop-number-preserved
loop-number-preserved c = nets_before-more c.loop-number.number c.loop-number.order c.push.new.self c.loop-number.invariant c.in_ok-push.ensures.ok
