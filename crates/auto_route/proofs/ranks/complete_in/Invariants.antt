use Rattle.std.proofs.Common.{◌≡◌, ◌≤◌, length}
use Rattle.auto_route.specs.Rounds.{complete_of}
use Rattle.auto_route.proofs.Ordering.{nets_before}
use Rattle.auto_route.proofs.ranks.complete_in.Given as goal

-- the complete ones of the nets so far were counted
abbrev pub invariant-loop-number : goal.invariant-loop-number
invariant-loop-number l = record {
  count : l.complete ≡ length (complete_of l.board.parts l.made.lists (nets_before l.number));
  few : l.complete ≤ l.number;
}
