use Rattle.std.proofs.Common.{◌≡◌, ◌++◌, take}
use Rattle.std.specs.List.{flat_map}
use Rattle.net_trace.specs.Texts.{short_line}
use Rattle.net_trace.proofs.printing.push_shorts.Given as goal

-- what was there, and the line of each so far
abbrev pub invariant-loop-short : goal.invariant-loop-short
invariant-loop-short l = l.text ≡ l.initial.text ++ flat_map (short_line l.board.parts) (take l.short-index l.shorts)
