use Rattle.std.proofs.Common.{◌≡◌, ◌++◌, drop}
use Rattle.board_model.specs.WellFormed.{IsCorner, AreSteps}
use Rattle.net_trace.specs.Pieces.{conn_pieces, legs_pieces}
use Rattle.net_trace.proofs.copper.push_conn.Given as goal

-- with the pieces of the legs that are left the pieces are all of the connection's, and those legs are
-- steps from a corner
abbrev pub invariant-loop-leg : goal.invariant-loop-leg
invariant-loop-leg l = record {
  pieces : l.pieces ++ legs_pieces l.board.parts l.net l.from (drop l.leg-index l.leg-items) ≡ l.initial.pieces ++ conn_pieces l.board.parts l.net l.conn;
  from : IsCorner l.board.parts l.from;
  steps : AreSteps l.board.parts l.from (drop l.leg-index l.leg-items);
}
