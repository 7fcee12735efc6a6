use Rattle.std.proofs.Common.{List, OnOk, IfErr}
use Rattle.std.proofs.lemmas.Result.{IfErr-weaker, on_ok_weaker}
use Rattle.board_reader.specs.Contract.{told_by}
use Rattle.contour_core.proofs.Checking.{finds-right, ends-checked}
use Rattle.contour_core.proofs.checks.check.Goals as goal

pub returns-clause-done : goal.returns-clause-done
returns-clause-done g c =
    let source = g.S.Source in
    let sink = g.K.Sink in
    let checked = c.in_ok-checked.checked in
    on_ok_weaker c.tell_checked.result (finds-right (told_by checked.input) checked.replies (source.left c.args.source.now) c.in_ok-checked.ensures.ok (sink.written c.args.out.now) (sink.written c.tell_checked.new.out)) c.tell_checked.ensures.ok

pub returns-clause-err : goal.returns-clause-err
returns-clause-err g c =
    let source = g.S.Source in
    let sink = g.K.Sink in
    let checked = c.in_ok-checked.checked in
    IfErr-weaker c.tell_checked.result _ _ (ends-checked (told_by checked.input) checked.replies (source.left c.args.source.now) c.in_ok-checked.ensures.ok (source.faults c.args.source.now) (source.faults c.read_checked.new.source)
    (sink.written c.args.out.now) (sink.written c.tell_checked.new.out) (sink.faults c.args.out.now) (sink.faults c.tell_checked.new.out)) c.tell_checked.ensures.err
