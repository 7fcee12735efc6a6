use Rattle.std.proofs.Common.{◌≡◌, ◌++◌, drop}
use Rattle.board_model.specs.Boxes.{legs_boxes}
use Rattle.board_model.specs.WellFormed.{IsCorner, AreSteps}
use Rattle.board_model.proofs.boxes.push_conn.Given as goal

-- with the boxes of the legs that are left the boxes are all of the legs', and those legs are steps from a
-- corner
abbrev pub invariant-loop-leg : goal.invariant-loop-leg
invariant-loop-leg l = record {
  boxes : l.boxes ++ legs_boxes l.board.parts l.from (drop l.leg-index l.leg-items) ≡ l.initial.boxes ++ legs_boxes l.board.parts l.conn.start l.leg-items;
  from : IsCorner l.board.parts l.from;
  steps : AreSteps l.board.parts l.from (drop l.leg-index l.leg-items);
}
