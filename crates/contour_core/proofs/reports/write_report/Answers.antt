use Rattle.std.proofs.Common.{List, OnOk, IfErr}
use Rattle.std.proofs.lemmas.Result.{IfErr-weaker, on_ok_weaker}
use Rattle.board_reader.specs.Contract.{told_by}
use Rattle.call_words.specs.Requests.{report_by}
use Rattle.contour_core.proofs.Reporting.{reports-input, ends-reported}
use Rattle.contour_core.proofs.reports.write_report.Goals as goal

pub returns-clause-done : goal.returns-clause-done
returns-clause-done g c =
    let source = g.S.Source in
    let sink = g.K.Sink in
    let checked = c.in_ok-checked.checked in
    on_ok_weaker c.send.result (reports-input (told_by checked.input) checked.replies (report_by c.args.report) (source.left c.args.source.now) c.in_ok-checked.ensures.ok (sink.written c.args.out.now) (sink.written c.send.new.out)) c.send.ensures.ok

pub returns-clause-err : goal.returns-clause-err
returns-clause-err g c =
    let source = g.S.Source in
    let sink = g.K.Sink in
    let checked = c.in_ok-checked.checked in
    IfErr-weaker c.send.result _ _ (ends-reported (told_by checked.input) checked.replies (report_by c.args.report) (source.left c.args.source.now) c.in_ok-checked.ensures.ok (source.faults c.args.source.now) (source.faults c.read_checked.new.source)
    (sink.written c.args.out.now) (sink.written c.send.new.out) (sink.faults c.args.out.now) (sink.faults c.send.new.out)) c.send.ensures.err
