use Rattle.std.proofs.Common.{◌≡◌, take}
use Rattle.session_core.specs.Adopting.{AreWalksInTurn}
use Rattle.session_core.specs.Sessions.{IsSitting}
use Rattle.session_core.proofs.adopts.take_conns.Given as goal

-- the connections so far were taken up
abbrev pub invariant-loop-conn : goal.invariant-loop-conn
invariant-loop-conn g l = record {
  count : l.number ≡ l.conn-index;
  walks : AreWalksInTurn l.board.parts l.fn.made.lists l.net (take l.conn-index l.conns) l.made.lists;
  sitting : IsSitting l.board.parts l.made.lists l.planes;
}
