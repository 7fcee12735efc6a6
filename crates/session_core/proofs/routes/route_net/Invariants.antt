use Rattle.std.proofs.Common.{◌≡◌, ◌+◌, length}
use Rattle.route_law.specs.Routing.{AreMadeInTurn, next_number}
use Rattle.session_core.specs.Sessions.{IsSitting}
use Rattle.session_core.proofs.routes.route_net.Given as goal

-- the connections so far were made one after another, and this number is the next one's
abbrev pub invariant-loop-number : goal.invariant-loop-number
invariant-loop-number g l = record {
  turns : AreMadeInTurn l.board.parts l.fn.made.lists l.net l.list l.made.lists;
  sitting : IsSitting l.board.parts l.made.lists l.planes;
  next : l.number ≡ next_number l.made.lists l.net;
  count : l.number ≡ l.first + length l.list;
}
