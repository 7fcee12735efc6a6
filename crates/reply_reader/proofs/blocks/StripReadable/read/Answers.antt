use Rattle.reply_reader.proofs.Formed.{strip_form}
use Rattle.reply_reader.proofs.blocks.StripReadable.read.Goals as goal

pub read_line-requires : goal.read_line-requires
read_line-requires c = strip_form c.args.board.now.parts c.args.board.now.kept
