use Rattle.std.proofs.Common.{◌≡◌, ◌==◌, ◌≤◌, length, filter, take}
use Rattle.board_parts.specs.declared.parts.Pin.{Pin}
use Rattle.board_parts.proofs.boards.Board.pin_count.Given as goal

-- so many pins of the net stand before
abbrev pub invariant-loop-pin : goal.invariant-loop-pin
invariant-loop-pin l = record {
  count : l.count ≡ length (filter (λ (p : Pin). p.net.0 == l.n.0) (take l.pin-index l.pin-items));
  few : l.count ≤ l.pin-index;
}
