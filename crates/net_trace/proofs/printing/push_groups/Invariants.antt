use Rattle.std.proofs.Common.{◌≡◌, ◌++◌, take}
use Rattle.std.specs.List.{flat_map}
use Rattle.net_trace.specs.Texts.{group_line}
use Rattle.net_trace.proofs.printing.push_groups.Given as goal

-- what was there, and the line of each so far
abbrev pub invariant-loop-group : goal.invariant-loop-group
invariant-loop-group l = l.text ≡ l.initial.text ++ flat_map group_line (take l.group-index l.groups)
