use Rattle.reply_reader.proofs.Formed.{violation_form}
use Rattle.reply_reader.proofs.blocks.ViolationReadable.read.Goals as goal

pub read_line-requires : goal.read_line-requires
read_line-requires c = violation_form c.args.board.now.parts c.args.board.now.kept
