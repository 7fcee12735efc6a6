use Rattle.std.proofs.Common.{◌≡◌, take, length}
use Rattle.replay_check.specs.Leaving.{with_blocks}
use Rattle.replay_check.proofs.after.take_blocks.Given as goal

-- what the blocks so far tell of is appended
abbrev pub invariant-loop-block : goal.invariant-loop-block
invariant-loop-block l = record {
  lists : l.made.lists ≡ with_blocks l.fn.made.lists (take l.block-index l.blocks);
  nets : length l.made.lists ≡ length l.fn.made.lists;
}
