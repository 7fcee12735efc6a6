use Rattle.std.proofs.Common.{◌≡◌, take}
use Rattle.route_law.specs.Steps.{nothing_made}
use Rattle.auto_route.specs.States.{after_nets}
use Rattle.auto_route.proofs.given_back.give_back.Given as goal

-- the nets before this one have their connections again
abbrev pub invariant-loop-routed : goal.invariant-loop-routed
invariant-loop-routed g l = record {
  board : l.session.parts ≡ l.fn.s.parts;
  lists : l.session.lists ≡ after_nets (nothing_made l.fn.s.parts) (take l.routed-index l.round);
}
