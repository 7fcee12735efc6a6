use Rattle.std.proofs.lemmas.Result.{err_from_is_err_and}
use Rattle.reply_reader.proofs.Exits.{leg_one, item_head_fails, item_start_fails, item_legs_fail, item_read}
use Rattle.reply_reader.proofs.Formed.{conn_head_form, start_form, leg_form}
use Rattle.reply_reader.proofs.blocks.ItemReadable.read.Goals as goal

pub read_line-requires : goal.read_line-requires
read_line-requires c = conn_head_form

pub read_line-requires-2 : goal.read_line-requires-2
read_line-requires-2 c = start_form c.args.board.now.parts c.args.board.now.kept

pub read_counted-requires : goal.read_counted-requires
read_counted-requires c = record { one = leg_one c.args.board.now.parts c.args.board.now.kept; some = λ h. (leg_form c.args.board.now.parts c.args.board.now.kept).some }

pub returns-in_err-head : goal.returns-in_err-head
returns-in_err-head c =
    let p = err_from_is_err_and c.from_residual.result c.from_residual.ensures.1 in
    rw (p.1, p.2) (item_head_fails c.args.board.now.parts c.args.board.now.kept c.args.bytes.now c.args.place.now c.read_line.new.place c.read_line.new.place c.in_err-head.field-0.0 c.in_err-head.ensures)

pub returns-in_err-start : goal.returns-in_err-start
returns-in_err-start c =
    let p = err_from_is_err_and c.from_residual-in_err-start.result c.from_residual-in_err-start.ensures.1 in
    rw (p.1, p.2) (item_start_fails c.args.board.now.parts c.args.board.now.kept c.args.bytes.now c.args.place.now c.read_line.new.place c.read_line-2.new.place c.read_line-2.new.place c.in_ok-head.head c.in_err-start.field-0.0 c.in_ok-head.ensures c.in_err-start.ensures)

pub returns-in_err-legs : goal.returns-in_err-legs
returns-in_err-legs c =
    let p = err_from_is_err_and c.from_residual-in_err-legs.result c.from_residual-in_err-legs.ensures.1 in
    rw (p.1, p.2) (item_legs_fail c.args.board.now.parts c.args.board.now.kept c.args.bytes.now c.args.place.now c.read_line.new.place c.read_line-2.new.place c.read_counted.new.place c.read_counted.new.place c.in_ok-head.head c.in_ok-start.start c.in_err-legs.field-0.0 c.in_ok-head.ensures c.in_ok-start.ensures c.in_err-legs.ensures)

pub returns : goal.returns
returns c = item_read c.args.board.now.parts c.args.board.now.kept c.args.bytes.now c.args.place.now c.read_line.new.place c.read_line-2.new.place c.read_counted.new.place c.in_ok-head.head c.in_ok-start.start c.in_ok-legs.legs
    c.in_ok-head.ensures c.in_ok-start.ensures c.in_ok-legs.ensures
