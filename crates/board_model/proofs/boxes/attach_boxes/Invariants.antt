use Rattle.std.proofs.Common.{◌≡◌, ◌++◌, take}
use Rattle.std.specs.List.{flat_map}
use Rattle.board_model.specs.Boxes.{conn_boxes}
use Rattle.board_model.proofs.boxes.attach_boxes.Given as goal

-- the boxes of the connections so far are added
abbrev pub invariant-loop-conn : goal.invariant-loop-conn
invariant-loop-conn l = l.boxes ≡ l.initial.boxes ++ flat_map (conn_boxes l.board.parts) (take l.conn-index l.conns)
