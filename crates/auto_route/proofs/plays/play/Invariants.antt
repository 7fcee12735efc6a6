use Rattle.std.proofs.Common.{◌≡◌, All, take}
use Rattle.route_law.specs.Regular.{IsRegularRouted}
use Rattle.route_law.specs.Steps.{nothing_made}
use Rattle.auto_route.specs.Rounds.{AreRouted, order_of}
use Rattle.auto_route.specs.States.{last_state}
use Rattle.auto_route.proofs.plays.play.Given as goal

-- the nets before this one were routed one after another
abbrev pub invariant-loop-net : goal.invariant-loop-net
invariant-loop-net g l = record {
  board : l.session.parts ≡ l.fn.s.parts;
  nets : order_of l.round ≡ take l.net-index l.order;
  routed : AreRouted l.fn.s.parts (nothing_made l.fn.s.parts) l.round;
  lists : l.session.lists ≡ last_state l.fn.s.parts l.round;
  regular : All (IsRegularRouted l.fn.s.parts) l.round;
}
