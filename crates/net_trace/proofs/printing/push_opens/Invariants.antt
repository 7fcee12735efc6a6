use Rattle.std.proofs.Common.{◌≡◌, ◌++◌, take}
use Rattle.std.specs.List.{flat_map}
use Rattle.net_trace.specs.Texts.{open_line}
use Rattle.net_trace.proofs.printing.push_opens.Given as goal

-- what was there, and the line of each so far
abbrev pub invariant-loop-open_net : goal.invariant-loop-open_net
invariant-loop-open_net l = l.text ≡ l.initial.text ++ flat_map (open_line l.board.parts) (take l.open_net-index l.opens)
