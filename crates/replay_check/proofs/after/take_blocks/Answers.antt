use Rattle.std.proofs.Common.{List, ◌∙◌, ap, arith}
use Rattle.board_model.specs.declared.made.Conn.{Conn}
use Rattle.route_law.specs.declared.replies.Made1.{Made1}
use Rattle.replay_check.specs.Leaving.{with_made}
use Rattle.replay_check.proofs.Leaving.{block_one_more}
use Rattle.replay_check.proofs.after.take_blocks.Goals as goal

pub loop-block-preserved : goal.loop-block-preserved
loop-block-preserved c =
    let block = c.block-item.result in
    let mid = c.loop-block.made.lists in
    let F : List Made1 → List (List Conn) = λ ms. with_made mid block.net ms in
    let taken = c.in_ok-take_made.ensures.lists ∙ ap F c.as_slice.ensures in
    record {
      lists = block_one_more c.args.made.now.lists mid c.take_made.new.made.lists c.loop-block.block-index c.args.blocks.now block (omega arith) c.block-item.is c.loop-block.invariant.lists taken;
      nets = c.in_ok-take_made.ensures.nets ∙ c.loop-block.invariant.nets;
    }
