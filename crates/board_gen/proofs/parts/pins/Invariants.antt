use Rattle.std.proofs.Common.{◌≡◌, ◌-◌, ◌++◌}
use Rattle.std.specs.List.{range_with_len, flat_map}
use Rattle.board_gen.specs.Generated.{pins_of}
use Rattle.board_gen.proofs.parts.pins.Given as goal

-- what is there and what is left make up the whole
abbrev pub invariant-loop-i : goal.invariant-loop-i
invariant-loop-i l = l.pins ++ flat_map (pins_of l.n) (range_with_len l.i (l.end - l.i)) ≡ flat_map (pins_of l.n) (range_with_len 1 l.n)
