use Rattle.std.proofs.Common.{◌≡◌, ◌*◌, ◌≤◌, take}
use Rattle.demo_text.specs.Summary.{missing_in}
use Rattle.demo_text.proofs.sums.missing_in.Given as goal

-- the connections of the nets so far were counted, and a net has few
abbrev pub invariant-loop-net : goal.invariant-loop-net
invariant-loop-net l = record {
  total : l.missing ≡ missing_in (take l.net-index l.nets);
  small : l.missing ≤ 32768 * l.net-index;
}
