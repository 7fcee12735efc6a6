use Rattle.std.proofs.lemmas.Result.{err_from_is_err_and}
use Rattle.reply_reader.proofs.Exits.{made_one, made_some, routed_made_fail, routed_none_fails, routed_rest_read}
use Rattle.reply_reader.proofs.blocks.read_routed.Goals as goal

pub read_counted-requires : goal.read_counted-requires
read_counted-requires c = record { one = made_one c.args.board.now.parts c.args.board.now.kept; some = λ h. made_some c.args.board.now.parts c.args.board.now.kept }

pub returns-in_err-made : goal.returns-in_err-made
returns-in_err-made c =
    let p = err_from_is_err_and c.from_residual.result c.from_residual.ensures.1 in
    rw (p.1, p.2) (routed_made_fail c.args.board.now.parts c.args.board.now.kept c.args.head c.requires c.args.bytes.now c.args.place.now c.read_counted.new.place c.read_counted.new.place c.in_err-made.field-0.0 c.in_err-made.ensures)

pub returns-in_err-none : goal.returns-in_err-none
returns-in_err-none c =
    let p = err_from_is_err_and c.from_residual-in_err-none.result c.from_residual-in_err-none.ensures.1 in
    rw (p.1, p.2) (routed_none_fails c.args.board.now.parts c.args.board.now.kept c.args.head c.requires c.args.bytes.now c.args.place.now c.read_counted.new.place c.read_rest.new.place c.read_rest.new.place c.in_ok-made.made c.in_err-none.field-0.0 c.in_ok-made.ensures c.in_err-none.ensures)

pub returns : goal.returns
returns c = routed_rest_read c.args.board.now.parts c.args.board.now.kept c.args.head c.requires c.args.bytes.now c.args.place.now c.read_counted.new.place c.read_rest.new.place c.in_ok-made.made c.in_ok-none.none c.in_ok-made.ensures c.in_ok-none.ensures
