use Rattle.std.proofs.lemmas.Result.{IfErr-weaker, on_ok_weaker}
use Rattle.contour_core.proofs.SummedUp.{finishes, ends_finish}
use Rattle.contour_core.proofs.demos.finish.Goals as goal

pub returns-clause-ok : goal.returns-clause-ok
returns-clause-ok g c =
    let sink = g.K.Sink in
    let session = c.args.session in
    on_ok_weaker c.sum_up.result (finishes session.parts session.lists c.in_ok-second.field-0-0.lists c.args.n c.args.first.now c.in_ok-second.second (sink.written c.args.out.now) (sink.written c.reply_to.new.out) c.in_ok-second.ensures.ok (sink.written c.sum_up.new.out)) c.sum_up.ensures.ok

pub returns-clause-err : goal.returns-clause-err
returns-clause-err g c =
    let sink = g.K.Sink in
    let session = c.args.session in
    IfErr-weaker c.sum_up.result _ _ (ends_finish session.parts session.lists c.in_ok-second.field-0-0.lists c.args.n c.args.first.now c.in_ok-second.second (sink.written c.args.out.now) (sink.written c.reply_to.new.out) c.in_ok-second.ensures.ok (sink.written c.sum_up.new.out)
    (sink.faults c.args.out.now) (sink.faults c.reply_to.new.out) (sink.faults c.sum_up.new.out) c.in_ok-second.ensures.never_falls) c.sum_up.ensures.err
