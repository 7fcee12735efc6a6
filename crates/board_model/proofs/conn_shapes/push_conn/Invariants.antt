use Rattle.std.proofs.Common.{◌≡◌, ◌++◌, drop}
use Rattle.board_model.specs.Shapes.{conn_shapes, legs_shapes}
use Rattle.board_model.specs.WellFormed.{IsCorner, AreSteps}
use Rattle.board_model.proofs.conn_shapes.push_conn.Given as goal

-- with the shapes of the legs that are left the shapes are all of the connection's, and those legs are
-- steps from a corner
abbrev pub invariant-loop-leg : goal.invariant-loop-leg
invariant-loop-leg l = record {
  shapes : l.shapes ++ legs_shapes l.board.parts l.net l.from (drop l.leg-index l.leg-items) ≡ l.initial.shapes ++ conn_shapes l.board.parts l.net l.conn;
  from : IsCorner l.board.parts l.from;
  steps : AreSteps l.board.parts l.from (drop l.leg-index l.leg-items);
}
