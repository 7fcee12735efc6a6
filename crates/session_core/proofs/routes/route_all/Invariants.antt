use Rattle.std.proofs.Common.{◌≡◌, length}
use Rattle.route_law.specs.Routing.{AreRoutedFrom}
use Rattle.session_core.specs.Sessions.{IsSitting}
use Rattle.session_core.proofs.routes.route_all.Given as goal

-- the nets before this one were routed one after another
abbrev pub invariant-loop-number : goal.invariant-loop-number
invariant-loop-number g l = record {
  routed : AreRoutedFrom l.board.parts 0 l.fn.made.lists l.nets l.made.lists;
  sitting : IsSitting l.board.parts l.made.lists l.planes;
  count : length l.nets ≡ l.number;
}
