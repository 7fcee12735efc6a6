use Rattle.std.proofs.Common.{◌≡◌, take}
use Rattle.std.specs.List.{flat_map}
use Rattle.board_model.specs.Shapes.{conn_shapes}
use Rattle.replay_check.proofs.states.net_shapes.Given as goal

abbrev pub invariant-loop-conn : goal.invariant-loop-conn
invariant-loop-conn l = l.all ≡ flat_map (conn_shapes l.board.parts l.net) (take l.conn-index l.conns)
