use Rattle.std.proofs.Common.{◌≡◌, ◌++◌, ◌==◌, ◌≤◌, length, filter, take}
use Rattle.std.specs.List.{flat_map}
use Rattle.board_model.specs.Boxes.{pin_boxes}
use Rattle.board_parts.specs.declared.parts.Pin.{Pin}
use Rattle.board_model.proofs.boxes.push_pins.Given as goal

-- so many pins of the net stand before, no more than are wanted, and the boxes of all of them are added
abbrev pub invariant-loop-pin : goal.invariant-loop-pin
invariant-loop-pin l = record {
  stand : l.before ≡ length (filter (λ (p : Pin). p.net.0 == l.net.0) (take l.pin-index l.pin-items));
  few : l.before ≤ l.count;
  added : l.boxes ≡ l.initial.boxes ++ flat_map pin_boxes (filter (λ (p : Pin). p.net.0 == l.net.0) (take l.pin-index l.pin-items));
}
