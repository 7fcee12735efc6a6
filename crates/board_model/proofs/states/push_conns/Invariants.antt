use Rattle.std.proofs.Common.{◌≡◌, ◌++◌, take}
use Rattle.std.specs.List.{flat_map}
use Rattle.board_model.specs.Shapes.{conn_shapes}
use Rattle.board_model.proofs.states.push_conns.Given as goal

-- the shapes of the connections so far are added
abbrev pub invariant-loop-conn : goal.invariant-loop-conn
invariant-loop-conn l = l.shapes ≡ l.initial.shapes ++ flat_map (conn_shapes l.board.parts l.net) (take l.conn-index l.conns)
