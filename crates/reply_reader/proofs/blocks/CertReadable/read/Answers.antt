use Rattle.std.proofs.lemmas.Result.{err_from_is_err_and}
use Rattle.reply_reader.proofs.Exits.{entry_one, cert_head_fails, cert_entries_fail, cert_read}
use Rattle.reply_reader.proofs.Formed.{cert_head_form, entry_form}
use Rattle.reply_reader.proofs.blocks.CertReadable.read.Goals as goal

pub read_line-requires : goal.read_line-requires
read_line-requires c = cert_head_form

pub read_counted-requires : goal.read_counted-requires
read_counted-requires c = record { one = entry_one c.args.board.now.parts c.args.board.now.kept; some = λ h. (entry_form c.args.board.now.parts c.args.board.now.kept).some }

pub returns-in_err-head : goal.returns-in_err-head
returns-in_err-head c =
    let p = err_from_is_err_and c.from_residual.result c.from_residual.ensures.1 in
    rw (p.1, p.2) (cert_head_fails c.args.board.now.parts c.args.board.now.kept c.args.bytes.now c.args.place.now c.read_line.new.place c.read_line.new.place c.in_err-head.field-0.0 c.in_err-head.ensures)

pub returns-in_err-entries : goal.returns-in_err-entries
returns-in_err-entries c =
    let p = err_from_is_err_and c.from_residual-in_err-entries.result c.from_residual-in_err-entries.ensures.1 in
    rw (p.1, p.2) (cert_entries_fail c.args.board.now.parts c.args.board.now.kept c.args.bytes.now c.args.place.now c.read_line.new.place c.read_counted.new.place c.read_counted.new.place c.in_ok-head.head c.in_err-entries.field-0.0 c.in_ok-head.ensures c.in_err-entries.ensures)

pub returns : goal.returns
returns c = cert_read c.args.board.now.parts c.args.board.now.kept c.args.bytes.now c.args.place.now c.read_line.new.place c.read_counted.new.place c.in_ok-head.head c.in_ok-entries.entries c.in_ok-head.ensures c.in_ok-entries.ensures
