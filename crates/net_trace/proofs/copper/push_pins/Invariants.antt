use Rattle.std.proofs.Common.{◌≡◌, ◌++◌, map, take}
use Rattle.net_trace.specs.Pieces.{pin_piece}
use Rattle.net_trace.proofs.copper.push_pins.Given as goal

-- the pieces of the pins so far are added
abbrev pub invariant-loop-pin : goal.invariant-loop-pin
invariant-loop-pin l = l.pieces ≡ l.initial.pieces ++ map pin_piece (take l.pin-index l.pins)
