use Rattle.std.proofs.lemmas.Result.{err_from_is_err_and}
use Rattle.reply_reader.proofs.Exits.{item_some, cert_some, made_item_fails, made_cert_fails, made_read}
use Rattle.reply_reader.proofs.blocks.Made1Readable.read.Goals as goal

pub read-requires : goal.read-requires
read-requires c = item_some c.args.board.now.parts c.args.board.now.kept

pub read-requires-2 : goal.read-requires-2
read-requires-2 c = cert_some c.args.board.now.parts c.args.board.now.kept

pub returns-in_err-item : goal.returns-in_err-item
returns-in_err-item c =
    let p = err_from_is_err_and c.from_residual.result c.from_residual.ensures.1 in
    rw (p.1, p.2) (made_item_fails c.args.board.now.parts c.args.board.now.kept c.args.bytes.now c.args.place.now c.read.new.place c.read.new.place c.in_err-item.field-0.0 c.in_err-item.ensures)

pub returns-in_err-cert : goal.returns-in_err-cert
returns-in_err-cert c =
    let p = err_from_is_err_and c.from_residual-in_err-cert.result c.from_residual-in_err-cert.ensures.1 in
    rw (p.1, p.2) (made_cert_fails c.args.board.now.parts c.args.board.now.kept c.args.bytes.now c.args.place.now c.read.new.place c.read-2.new.place c.read-2.new.place c.in_ok-item.item c.in_err-cert.field-0.0 c.in_ok-item.ensures c.in_err-cert.ensures)

pub returns : goal.returns
returns c = made_read c.args.board.now.parts c.args.board.now.kept c.args.bytes.now c.args.place.now c.read.new.place c.read-2.new.place c.in_ok-item.item c.in_ok-cert.cert c.in_ok-item.ensures c.in_ok-cert.ensures
