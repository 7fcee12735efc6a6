use Rattle.std.proofs.Common.{◌≡◌, ◌++◌, take}
use Rattle.std.specs.List.{flat_map}
use Rattle.board_model.specs.Shapes.{pin_shapes}
use Rattle.board_model.proofs.states.push_pins.Given as goal

-- the shapes of the pins so far are added
abbrev pub invariant-loop-pin : goal.invariant-loop-pin
invariant-loop-pin l = l.shapes ≡ l.initial.shapes ++ flat_map pin_shapes (take l.pin-index l.pins)
