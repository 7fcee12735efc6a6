use Rattle.std.proofs.Common.{List, OnOk, IfErr, subst}
use Rattle.std.proofs.lemmas.Result.{IfErr-weaker, on_ok_weaker}
use Rattle.board_parts.specs.declared.commands.Command.{Command}
use Rattle.board_reader.specs.Contract.{told_by}
use Rattle.contour_core.specs.Answers.{AnswersAll}
use Rattle.contour_core.specs.Endings.{EndsAnswers}
use Rattle.contour_core.proofs.Ended.{ends_replies, answers_input, replies_begun}
use Rattle.contour_core.proofs.calls.run.Goals as goal

pub returns-clause-done : goal.returns-clause-done
returns-clause-done g c =
    let source = g.S.Source in
    let sink = g.K.Sink in
    let input = c.in_ok-input.input in
    let P : List Command → Type 0 = λ cs. OnOk c.answer_each.result (AnswersAll input.board.parts c.args.quiet cs (sink.written c.args.out.now) (sink.written c.answer_each.new.out)) in
    on_ok_weaker c.answer_each.result (answers_input c.args.quiet (source.left c.args.source.now) (sink.written c.args.out.now) (sink.written c.answer_each.new.out) (told_by input) c.in_ok-input.ensures.ok) (subst P c.as_slice.ensures c.answer_each.ensures.ok)

pub returns-clause-err : goal.returns-clause-err
returns-clause-err g c =
    let source = g.S.Source in
    let sink = g.K.Sink in
    let input = c.in_ok-input.input in
    let P : List Command → Type 0 = λ cs. IfErr c.answer_each.result (EndsAnswers input.board.parts c.args.quiet cs (sink.written c.args.out.now) (sink.written c.answer_each.new.out) (sink.faults c.args.out.now) (sink.faults c.answer_each.new.out)) in
    let of_input = subst P c.as_slice.ensures c.answer_each.ensures.err in
    IfErr-weaker c.answer_each.result _ _ (ends_replies c.args.quiet (source.left c.args.source.now) (source.faults c.args.source.now) (source.faults c.read_text.new.source) (sink.written c.args.out.now) (sink.written c.answer_each.new.out) (sink.faults c.args.out.now) (sink.faults c.answer_each.new.out) (told_by input) c.in_ok-input.ensures.ok) of_input

pub returns-clause-unwritten : goal.returns-clause-unwritten
returns-clause-unwritten g c =
    IfErr-weaker c.answer_each.result _ _ (λ e h before. absurd (replies_begun _ _ _ _ _ _ _ e h before)) c.answer_each.ensures.err
