use Rattle.std.proofs.Common.{◌≡◌, ◌++◌, take}
use Rattle.std.specs.List.{flat_map}
use Rattle.board_text.specs.Spelled.{keepout_line}
use Rattle.board_text.proofs.items.push_keepouts.Given as goal

-- what was there, and the line of each so far
abbrev pub invariant-loop-keepout : goal.invariant-loop-keepout
invariant-loop-keepout l = l.text ≡ l.initial.text ++ flat_map (keepout_line l.board.parts) (take l.keepout-index l.keepouts)
