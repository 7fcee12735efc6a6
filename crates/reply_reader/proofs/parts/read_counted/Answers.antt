use Rattle.std.proofs.lemmas.Result.{err_from_is_err_and}
use Rattle.reply_reader.proofs.Composing.{read_next, fails_next}
use Rattle.reply_reader.proofs.parts.read_counted.Goals as goal

pub returns-in_err-part : goal.returns-in_err-part
returns-in_err-part g c =
    let p = err_from_is_err_and c.from_residual.result c.from_residual.ensures.1 in
    rw (p.1, p.2) (fails_next (g.T.Readable.piece c.args.board.now.parts) c.requires.one c.args.count c.loop.counter c.args.bytes.now
    c.args.place.now c.loop.place c.read.new.place c.loop.parts c.in_err-part.field-0.0 c.loop-test.true c.loop.invariant c.in_err-part.ensures)

pub loop-preserved : goal.loop-preserved
loop-preserved g c =
    rw c.in_ok-push.ensures.ok (read_next (g.T.Readable.piece c.args.board.now.parts) c.requires.one c.loop.counter c.args.bytes.now
    c.args.place.now c.loop.place c.read.new.place c.loop.parts c.in_ok-part.part c.loop.invariant c.in_ok-part.ensures)
