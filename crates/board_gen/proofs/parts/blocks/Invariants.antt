use Rattle.std.proofs.Common.{◌≡◌, ◌-◌, ◌++◌, map}
use Rattle.std.specs.List.{range_with_len}
use Rattle.board_gen.specs.Generated.{block_of}
use Rattle.board_gen.proofs.parts.blocks.Given as goal

-- what is there and what is left make up the whole
abbrev pub invariant-loop-i : goal.invariant-loop-i
invariant-loop-i l = l.blocks ++ map block_of (range_with_len l.i (l.end - l.i)) ≡ map block_of (range_with_len 1 l.n)
