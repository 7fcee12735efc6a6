use Rattle.std.proofs.lemmas.Result.{err_from_is_err_and}
use Rattle.std.proofs.Common.{◌<◌, length, arith}
use Rattle.reply_reader.proofs.Exits.{routed_head_fails, routed_tells}
use Rattle.reply_reader.proofs.Formed.{route_head_form}
use Rattle.reply_reader.proofs.blocks.RoutedReadable.read.Goals as goal

pub read_line-requires : goal.read_line-requires
read_line-requires c =
    let known = c.requires.good.0.net in
    let nets : 0 < length c.args.board.now.parts.net_names = omega (arith, known) in
    route_head_form c.args.board.now.parts c.args.board.now.kept nets

pub read_routed-requires : goal.read_routed-requires
read_routed-requires c = c.in_ok-head.ensures.good

pub returns-in_err-head : goal.returns-in_err-head
returns-in_err-head c =
    let p = err_from_is_err_and c.from_residual.result c.from_residual.ensures.1 in
    rw (p.1, p.2) (routed_head_fails c.args.board.now.parts c.args.board.now.kept c.args.bytes.now c.args.place.now c.read_line.new.place c.read_line.new.place c.in_err-head.field-0.0 c.in_err-head.ensures)

pub returns : goal.returns
returns c = routed_tells c.args.board.now.parts c.args.board.now.kept c.args.bytes.now c.args.place.now c.read_line.new.place c.read_routed.new.place c.in_ok-head.head c.read_routed.result c.in_ok-head.ensures c.read_routed.ensures
