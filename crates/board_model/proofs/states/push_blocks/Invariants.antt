use Rattle.std.proofs.Common.{◌≡◌, ◌++◌, map, take}
use Rattle.board_model.specs.Shapes.{block_shape}
use Rattle.board_model.proofs.states.push_blocks.Given as goal

-- the shapes of the blockages so far are added
abbrev pub invariant-loop-block : goal.invariant-loop-block
invariant-loop-block l = l.shapes ≡ l.initial.shapes ++ map block_shape (take l.block-index l.blocks)
