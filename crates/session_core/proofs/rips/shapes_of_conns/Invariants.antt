use Rattle.std.proofs.Common.{◌≡◌, take}
use Rattle.std.specs.List.{flat_map}
use Rattle.board_model.specs.Shapes.{conn_shapes}
use Rattle.session_core.proofs.rips.shapes_of_conns.Given as goal

-- the shapes are those of the connections so far
abbrev pub invariant-loop-conn : goal.invariant-loop-conn
invariant-loop-conn l = l.shapes ≡ flat_map (conn_shapes l.board.parts l.net) (take l.conn-index l.conns)
