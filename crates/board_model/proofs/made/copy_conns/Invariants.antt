use Rattle.std.proofs.Common.{◌≡◌, take}
use Rattle.board_model.proofs.made.copy_conns.Given as goal

-- the connections so far are copied
abbrev pub invariant-loop-conn : goal.invariant-loop-conn
invariant-loop-conn l = l.list ≡ take l.conn-index l.conns
