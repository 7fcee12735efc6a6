use Rattle.reply_reader.proofs.Formed.{leg_form}
use Rattle.reply_reader.proofs.blocks.LegReadable.read.Goals as goal

pub read_line-requires : goal.read_line-requires
read_line-requires c = leg_form c.args.board.now.parts c.args.board.now.kept
