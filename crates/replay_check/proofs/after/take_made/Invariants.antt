use Rattle.std.proofs.Common.{◌≡◌, take, length}
use Rattle.replay_check.specs.Leaving.{with_made}
use Rattle.replay_check.proofs.after.take_made.Given as goal

-- the connections so far are appended
abbrev pub invariant-loop-one : goal.invariant-loop-one
invariant-loop-one l = record {
  lists : l.made.lists ≡ with_made l.fn.made.lists l.net (take l.one-index l.all);
  nets : length l.made.lists ≡ length l.fn.made.lists;
}
