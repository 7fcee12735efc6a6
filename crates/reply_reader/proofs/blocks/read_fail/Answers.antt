use Rattle.std.proofs.lemmas.Result.{err_from_is_err_and}
use Rattle.reply_reader.proofs.Exits.{cert_some, fail_head_fails, fail_cert_fails, fail_read}
use Rattle.reply_reader.proofs.Formed.{none_head_form}
use Rattle.reply_reader.proofs.blocks.read_fail.Goals as goal

pub read_line-requires : goal.read_line-requires
read_line-requires c = none_head_form

pub read-requires : goal.read-requires
read-requires c = cert_some c.args.board.now.parts c.args.board.now.kept

pub returns-in_err-head : goal.returns-in_err-head
returns-in_err-head c =
    let p = err_from_is_err_and c.from_residual.result c.from_residual.ensures.1 in
    rw (p.1, p.2) (fail_head_fails c.args.board.now.parts c.args.board.now.kept c.args.bytes.now c.args.place.now c.read_line.new.place c.read_line.new.place c.in_err-head.field-0.0 c.in_err-head.ensures)

pub returns-in_err-cert : goal.returns-in_err-cert
returns-in_err-cert c =
    let p = err_from_is_err_and c.from_residual-in_err-cert.result c.from_residual-in_err-cert.ensures.1 in
    rw (p.1, p.2) (fail_cert_fails c.args.board.now.parts c.args.board.now.kept c.args.bytes.now c.args.place.now c.read_line.new.place c.read.new.place c.read.new.place c.in_ok-head.head c.in_err-cert.field-0.0 c.in_ok-head.ensures c.in_err-cert.ensures)

pub returns : goal.returns
returns c = fail_read c.args.board.now.parts c.args.board.now.kept c.args.bytes.now c.args.place.now c.read_line.new.place c.read.new.place c.in_ok-head.head c.in_ok-cert.cert c.in_ok-head.ensures c.in_ok-cert.ensures
