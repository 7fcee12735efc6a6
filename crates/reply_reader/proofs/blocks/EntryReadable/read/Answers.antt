use Rattle.reply_reader.proofs.Formed.{entry_form}
use Rattle.reply_reader.proofs.blocks.EntryReadable.read.Goals as goal

pub read_line-requires : goal.read_line-requires
read_line-requires c = entry_form c.args.board.now.parts c.args.board.now.kept
