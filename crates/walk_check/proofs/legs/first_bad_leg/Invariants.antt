use Rattle.std.proofs.Common.{◌≡◌}
use Rattle.strip_moves.specs.Grounds.{ground_of}
use Rattle.walk_check.specs.Corners.{corner_after, AreGoodLegs}
use Rattle.walk_check.proofs.legs.first_bad_leg.Given as goal

-- the legs so far are good, and end in this node
abbrev pub invariant-loop-leg : goal.invariant-loop-leg
invariant-loop-leg g l = record {
  corner : l.corner ≡ l.leg-index;
  from : l.from ≡ corner_after l.conn.start l.leg-items l.leg-index;
  good : AreGoodLegs l.board.parts (ground_of l.board.parts l.planes l.net) l.conn.start l.leg-items l.leg-index;
}
