use Rattle.std.proofs.Common.{◌≡◌, ◌*◌, ◌^◌, ◌≤◌, take}
use Rattle.std.specs.Prelude.{sum_by}
use Rattle.demo_text.specs.Summary.{cost_of}
use Rattle.demo_text.proofs.sums.cost_of_net.Given as goal

-- the costs of the connections so far were added, and each is small
abbrev pub invariant-loop-made : goal.invariant-loop-made
invariant-loop-made l = record {
  total : l.cost ≡ sum_by cost_of (take l.made-index l.made-items);
  small : l.cost ≤ 2 ^ 89 * l.made-index;
}
