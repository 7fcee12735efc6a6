use Rattle.std.proofs.Common.{List, OnOk, IfErr}
use Rattle.std.proofs.lemmas.Result.{IfErr-weaker, on_ok_weaker}
use Rattle.board_reader.specs.Contract.{told_by}
use Rattle.contour_core.proofs.Upgrading.{upgrades_input, ends_upgrading, writing_begun}
use Rattle.contour_core.proofs.upgrades.upgrade_text.Goals as goal

pub returns-clause-done : goal.returns-clause-done
returns-clause-done g c =
    let source = g.S.Source in
    let sink = g.K.Sink in
    let input = c.in_ok-input.input in
    on_ok_weaker c.send.result (upgrades_input (source.left c.args.source.now) (sink.written c.args.out.now) (sink.written c.send.new.out) (told_by input) c.in_ok-input.ensures.ok) c.send.ensures.ok

pub returns-clause-err : goal.returns-clause-err
returns-clause-err g c =
    let source = g.S.Source in
    let sink = g.K.Sink in
    let input = c.in_ok-input.input in
    IfErr-weaker c.send.result _ _ (ends_upgrading (source.left c.args.source.now) (source.faults c.args.source.now) (source.faults c.read_text.new.source) (sink.written c.args.out.now) (sink.written c.send.new.out) (sink.faults c.args.out.now) (sink.faults c.send.new.out) (told_by input) c.in_ok-input.ensures.ok) c.send.ensures.err

pub returns-clause-unwritten : goal.returns-clause-unwritten
returns-clause-unwritten g c =
    IfErr-weaker c.send.result _ _ (λ e h before. absurd (writing_begun _ _ _ _ _ e h before)) c.send.ensures.err
