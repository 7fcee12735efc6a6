use Rattle.wavefront.proofs.Left.{IsLeft, left_count}
use Rattle.wavefront.proofs.tables.Table.covered.Given as goal

-- no entry of the chain so far comes before
abbrev pub invariant-loop-next : goal.invariant-loop-next
invariant-loop-next l = IsLeft (record { layer = l.layer; strip = l.strip; front = l.front; cost = l.cost }) l.self-inside.settled.items l.next

abbrev pub decreases-loop-next : goal.decreases-loop-next
decreases-loop-next l = left_count l.next
