use Rattle.std.proofs.Common.{◌≡◌, ◌++◌, take}
use Rattle.std.specs.List.{flat_map}
use Rattle.board_text.specs.Spelled.{layer_line}
use Rattle.board_text.proofs.wires.push_layers.Given as goal

-- what was there, and the line of each so far
abbrev pub invariant-loop-name : goal.invariant-loop-name
invariant-loop-name l = l.text ≡ l.initial.text ++ flat_map layer_line (take l.name-index l.names)
