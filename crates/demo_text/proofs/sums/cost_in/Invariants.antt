use Rattle.std.proofs.Common.{◌≡◌, ◌*◌, ◌^◌, ◌≤◌, take}
use Rattle.demo_text.specs.Summary.{cost_in}
use Rattle.demo_text.proofs.sums.cost_in.Given as goal

-- the costs of the nets so far were added, and each is small
abbrev pub invariant-loop-net : goal.invariant-loop-net
invariant-loop-net l = record {
  total : l.sum ≡ cost_in (take l.net-index l.nets);
  small : l.sum ≤ 2 ^ 104 * l.net-index;
}
