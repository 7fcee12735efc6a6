use Rattle.std.proofs.Common.{◌≡◌, take, length}
use Rattle.replay_check.specs.Leaving.{left_by_all}
use Rattle.replay_check.proofs.after.take_replies.Given as goal

-- the replies so far are taken
abbrev pub invariant-loop-reply : goal.invariant-loop-reply
invariant-loop-reply l = record {
  lists : l.made.lists ≡ left_by_all l.fn.made.lists (take l.reply-index l.replies);
  nets : length l.made.lists ≡ length l.fn.made.lists;
}
