use Rattle.std.proofs.Common.{◌≡◌, ◌++◌, take, set}
use Rattle.board_model.specs.Made.{conns_of}
use Rattle.session_core.proofs.adopts.append_all.Given as goal

-- the connections so far are appended
abbrev pub invariant-loop-conn : goal.invariant-loop-conn
invariant-loop-conn l = l.made.lists ≡ set l.fn.made.lists l.net.0 (conns_of l.fn.made.lists l.net ++ take l.conn-index l.conns)
