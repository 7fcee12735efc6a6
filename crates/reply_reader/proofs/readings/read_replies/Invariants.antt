use Rattle.std.proofs.Common.{◌-◌, length}
use Rattle.reply_reader.specs.Blocks.{reply_block}
use Rattle.reply_reader.specs.Parts.{counted, IsRead}
use Rattle.reply_reader.proofs.readings.read_replies.Given as goal

-- the replies so far are what stands before the place
abbrev pub invariant-loop-place : goal.invariant-loop-place
invariant-loop-place l = IsRead (counted (length l.replies) (reply_block l.board.parts)) l.bytes l.initial.place l.place l.replies

abbrev pub decreases-loop-place : goal.decreases-loop-place
decreases-loop-place l = length l.bytes - l.place.at
