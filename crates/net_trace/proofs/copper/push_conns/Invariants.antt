use Rattle.std.proofs.Common.{◌≡◌, ◌++◌, take}
use Rattle.std.specs.List.{flat_map}
use Rattle.net_trace.specs.Pieces.{conn_pieces}
use Rattle.net_trace.proofs.copper.push_conns.Given as goal

-- the pieces of the connections so far are added
abbrev pub invariant-loop-conn : goal.invariant-loop-conn
invariant-loop-conn l = l.pieces ≡ l.initial.pieces ++ flat_map (conn_pieces l.board.parts l.net) (take l.conn-index l.conns)
