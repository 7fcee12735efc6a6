use Rattle.std.proofs.lemmas.Result.{err_from_is_err_and}
use Rattle.reply_reader.proofs.Exits.{reply_head_fails, reply_tells}
use Rattle.reply_reader.proofs.Formed.{head_form}
use Rattle.reply_reader.proofs.replies.ReplyReadable.read.Goals as goal

pub read_line-requires : goal.read_line-requires
read_line-requires c = head_form c.args.board.now.parts c.args.board.now.kept

pub read_rest-requires : goal.read_rest-requires
read_rest-requires c = c.in_ok-head.ensures.good

pub returns-in_err-head : goal.returns-in_err-head
returns-in_err-head c =
    let p = err_from_is_err_and c.from_residual.result c.from_residual.ensures.1 in
    rw (p.1, p.2) (reply_head_fails c.args.board.now.parts c.args.board.now.kept c.args.bytes.now c.args.place.now c.read_line.new.place c.read_line.new.place c.in_err-head.field-0.0 c.in_err-head.ensures)

pub returns : goal.returns
returns c = reply_tells c.args.board.now.parts c.args.board.now.kept c.args.bytes.now c.args.place.now c.read_line.new.place c.read_rest.new.place c.in_ok-head.head c.read_rest.result c.in_ok-head.ensures c.read_rest.ensures
