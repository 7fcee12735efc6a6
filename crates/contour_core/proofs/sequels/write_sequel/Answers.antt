use Rattle.std.proofs.Common.{List, OnOk, IfErr}
use Rattle.std.proofs.lemmas.Result.{IfErr-weaker, on_ok_weaker}
use Rattle.board_reader.specs.Contract.{told_by}
use Rattle.call_words.specs.Requests.{sequel_by}
use Rattle.contour_core.proofs.Following.{follows-input, ends-sequel}
use Rattle.contour_core.proofs.sequels.write_sequel.Goals as goal

pub returns-clause-done : goal.returns-clause-done
returns-clause-done g c =
    let source = g.S.Source in
    let sink = g.K.Sink in
    let input = c.in_ok-input.input in
    on_ok_weaker c.follow.result (follows-input (told_by input) (sequel_by c.args.sequel) (source.left c.args.source.now) c.in_ok-input.ensures.ok (sink.written c.args.out.now) (sink.written c.follow.new.out)) c.follow.ensures.ok

pub returns-clause-err : goal.returns-clause-err
returns-clause-err g c =
    let source = g.S.Source in
    let sink = g.K.Sink in
    let input = c.in_ok-input.input in
    IfErr-weaker c.follow.result _ _ (ends-sequel (told_by input) (sequel_by c.args.sequel) (source.left c.args.source.now) c.in_ok-input.ensures.ok (source.faults c.args.source.now) (source.faults c.read_text.new.source)
    (sink.written c.args.out.now) (sink.written c.follow.new.out) (sink.faults c.args.out.now) (sink.faults c.follow.new.out)) c.follow.ensures.err
