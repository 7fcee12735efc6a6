use Rattle.std.proofs.lemmas.Result.{err_from_is_err_and}
use Rattle.std.proofs.Common.{◌<◌, arith}
use Rattle.reply_reader.proofs.Exits.{rest_fails, rest_read, rest_read_none}
use Rattle.reply_reader.proofs.blocks.read_rest.Goals as goal

pub returns-then-head : goal.returns-then-head
returns-then-head c = rest_read_none c.args.board.now.parts c.args.board.now.kept c.args.head.missing c.args.head.made c.if-head.true c.args.bytes.now c.args.place.now

pub returns-in_err-fail : goal.returns-in_err-fail
returns-in_err-fail c =
    let p = err_from_is_err_and c.from_residual.result c.from_residual.ensures.1 in
    let lt : c.args.head.made < c.args.head.missing = omega (arith, c.requires, c.if-head.false) in
    rw (p.1, p.2) (rest_fails c.args.board.now.parts c.args.board.now.kept c.args.head.missing c.args.head.made lt c.args.bytes.now c.args.place.now c.read_fail.new.place c.read_fail.new.place c.in_err-fail.field-0.0 c.in_err-fail.ensures)

pub returns : goal.returns
returns c =
    let lt : c.args.head.made < c.args.head.missing = omega (arith, c.requires, c.if-head.false) in
    rest_read c.args.board.now.parts c.args.board.now.kept c.args.head.missing c.args.head.made lt c.args.bytes.now c.args.place.now c.read_fail.new.place c.in_ok-fail.fail c.in_ok-fail.ensures
