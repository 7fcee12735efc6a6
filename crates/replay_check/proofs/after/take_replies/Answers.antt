use Rattle.std.proofs.Common.{◌∙◌, arith}
use Rattle.replay_check.proofs.Leaving.{reply_one_more}
use Rattle.replay_check.proofs.after.take_replies.Goals as goal

pub loop-reply-preserved : goal.loop-reply-preserved
loop-reply-preserved c = record {
  lists = reply_one_more c.args.made.now.lists c.loop-reply.made.lists c.take_reply.new.made.lists c.loop-reply.reply-index c.args.replies.now c.reply-item.result (omega arith) c.reply-item.is c.loop-reply.invariant.lists c.in_ok-take_reply.ensures.lists;
  nets = c.in_ok-take_reply.ensures.nets ∙ c.loop-reply.invariant.nets;
}
