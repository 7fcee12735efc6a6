use Rattle.std.proofs.lemmas.Result.{err_from_is_err_and}
use Rattle.reply_reader.proofs.Exits.{item_one, item_some, routed_one, violation_one, strip_one, route_fail, nets_fail, items_fail, found_fail, strips_fail, nets_there}
use Rattle.reply_reader.proofs.Formed.{violation_form, strip_form}
use Rattle.reply_reader.proofs.replies.read_rest.Goals as goal

pub read_counted-requires-clause-one : goal.read_counted-requires-clause-one
read_counted-requires-clause-one c = routed_one c.args.board.now.parts c.args.board.now.kept

pub read_counted-requires-clause-some : goal.read_counted-requires-clause-some
read_counted-requires-clause-some c = nets_there c.args.board.now.parts c.args.board.now.kept c.args.head c.in-All.count c.in-All.is c.requires

pub read_counted-requires-in-Show-clause-one : goal.read_counted-requires-in-Show-clause-one
read_counted-requires-in-Show-clause-one c = item_one c.args.board.now.parts c.args.board.now.kept

pub read_counted-requires-in-Show-clause-some : goal.read_counted-requires-in-Show-clause-some
read_counted-requires-in-Show-clause-some c = λ more. item_some c.args.board.now.parts c.args.board.now.kept

pub read_counted-requires-in-Rules-clause-one : goal.read_counted-requires-in-Rules-clause-one
read_counted-requires-in-Rules-clause-one c = violation_one c.args.board.now.parts c.args.board.now.kept

pub read_counted-requires-in-Rules-clause-some : goal.read_counted-requires-in-Rules-clause-some
read_counted-requires-in-Rules-clause-some c = λ more. (violation_form c.args.board.now.parts c.args.board.now.kept).some

pub read_counted-requires-in-Strips-clause-one : goal.read_counted-requires-in-Strips-clause-one
read_counted-requires-in-Strips-clause-one c = strip_one c.args.board.now.parts c.args.board.now.kept

pub read_counted-requires-in-Strips-clause-some : goal.read_counted-requires-in-Strips-clause-some
read_counted-requires-in-Strips-clause-some c = λ more. (strip_form c.args.board.now.parts c.args.board.now.kept).some

pub returns-in_err-routed-in-Route : goal.returns-in_err-routed-in-Route
returns-in_err-routed-in-Route c =
    let p = err_from_is_err_and c.from_residual.result c.from_residual.ensures.1 in
    rw (p.1, p.2) (route_fail c.args.board.now.parts c.args.board.now.kept c.args.head c.in-Route.route c.in-Route.is c.requires c.args.bytes.now c.args.place.now c.read_routed.new.place c.read_routed.new.place
    c.in_err-routed-in-Route.field-0.0 c.in_err-routed-in-Route.ensures)

pub returns-in_err-nets-in-All : goal.returns-in_err-nets-in-All
returns-in_err-nets-in-All c =
    let p = err_from_is_err_and c.from_residual-in_err-nets-in-All.result c.from_residual-in_err-nets-in-All.ensures.1 in
    rw (p.1, p.2) (nets_fail c.args.board.now.parts c.args.board.now.kept c.args.head c.in-All.count c.in-All.is c.requires c.args.bytes.now c.args.place.now c.read_counted.new.place c.read_counted.new.place
    c.in_err-nets-in-All.field-0.0 c.in_err-nets-in-All.ensures)

pub returns-in_err-items-in-Show : goal.returns-in_err-items-in-Show
returns-in_err-items-in-Show c =
    let p = err_from_is_err_and c.from_residual-in_err-items-in-Show.result c.from_residual-in_err-items-in-Show.ensures.1 in
    rw (p.1, p.2) (items_fail c.args.board.now.parts c.args.board.now.kept c.args.head c.in-Show.net c.in-Show.needed c.in-Show.count c.in-Show.is c.requires c.args.bytes.now c.args.place.now c.read_counted-in-Show.new.place c.read_counted-in-Show.new.place
    c.in_err-items-in-Show.field-0.0 c.in_err-items-in-Show.ensures)

pub returns-in_err-found-in-Rules : goal.returns-in_err-found-in-Rules
returns-in_err-found-in-Rules c =
    let p = err_from_is_err_and c.from_residual-in_err-found-in-Rules.result c.from_residual-in_err-found-in-Rules.ensures.1 in
    rw (p.1, p.2) (found_fail c.args.board.now.parts c.args.board.now.kept c.args.head c.in-Rules.count c.in-Rules.is c.requires c.args.bytes.now c.args.place.now c.read_counted-in-Rules.new.place c.read_counted-in-Rules.new.place
    c.in_err-found-in-Rules.field-0.0 c.in_err-found-in-Rules.ensures)

pub returns-in_err-strips-in-Strips : goal.returns-in_err-strips-in-Strips
returns-in_err-strips-in-Strips c =
    let p = err_from_is_err_and c.from_residual-in_err-strips-in-Strips.result c.from_residual-in_err-strips-in-Strips.ensures.1 in
    rw (p.1, p.2) (strips_fail c.args.board.now.parts c.args.board.now.kept c.args.head c.in-Strips.layer c.in-Strips.class c.in-Strips.count c.in-Strips.is c.requires c.args.bytes.now c.args.place.now c.read_counted-in-Strips.new.place c.read_counted-in-Strips.new.place
    c.in_err-strips-in-Strips.field-0.0 c.in_err-strips-in-Strips.ensures)
