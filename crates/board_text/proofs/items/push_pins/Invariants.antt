use Rattle.std.proofs.Common.{◌≡◌, ◌++◌, take}
use Rattle.std.specs.List.{flat_map}
use Rattle.board_text.specs.Spelled.{pin_line}
use Rattle.board_text.proofs.items.push_pins.Given as goal

-- what was there, and the line of each so far
abbrev pub invariant-loop-pin : goal.invariant-loop-pin
invariant-loop-pin l = l.text ≡ l.initial.text ++ flat_map (pin_line l.board.parts) (take l.pin-index l.pins)
