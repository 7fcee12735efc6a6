use Rattle.tile_cuts.proofs.Relinking.{IsRelinking, left_from}
use Rattle.tile_cuts.proofs.mending.relink_side.Given as goal

abbrev pub invariant-loop-next : goal.invariant-loop-next
invariant-loop-next l = IsRelinking l.fn.store l.store l.side l.id l.area l.next

abbrev pub decreases-loop-next : goal.decreases-loop-next
decreases-loop-next l = left_from l.side l.area l.store l.next
