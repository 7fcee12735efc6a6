use Rattle.std.proofs.Common.{◌≡◌, ◌++◌, take}
use Rattle.std.specs.List.{flat_map}
use Rattle.board_text.specs.Spelled.{block_line}
use Rattle.board_text.proofs.items.push_blocks.Given as goal

-- what was there, and the line of each so far
abbrev pub invariant-loop-block : goal.invariant-loop-block
invariant-loop-block l = l.text ≡ l.initial.text ++ flat_map (block_line l.board.parts) (take l.block-index l.blocks)
