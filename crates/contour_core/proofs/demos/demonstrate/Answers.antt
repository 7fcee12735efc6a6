use Rattle.std.proofs.Common.{◌∙◌, OnOk, IfErr, sym, subst}
use Rattle.std.proofs.lemmas.Result.{IfErr-weaker, on_ok_weaker}
use Rattle.board_gen.specs.Generated.{asked}
use Rattle.board_parts.specs.declared.parts.BoardParts.{BoardParts}
use Rattle.contour_core.specs.Demos.{EndsFinish, EndsSummary, Finishes}
use Rattle.contour_core.proofs.Sent.{if_err_and}
use Rattle.contour_core.proofs.SummedUp.{answers_at, ends_first, ends_summary, none_written, sums_up}
use Rattle.contour_core.proofs.demos.demonstrate.Goals as goal

pub returns-in_err-session-clause-err : goal.returns-in_err-session-clause-err
returns-in_err-session-clause-err g c =
    let sink = g.K.Sink in
    let held = sink.written c.args.out.now in
    let faults = sink.faults c.args.out.now in
    if_err_and c.from_residual.result _ _ (λ e h. subst (EndsSummary c.args.board.parts asked c.args.n held held faults faults) (sym h) (none_written c.args.board.parts c.args.board.kept c.args.n held)) c.from_residual.ensures.1

pub returns-in_err-session-2-clause-err : goal.returns-in_err-session-2-clause-err
returns-in_err-session-2-clause-err g c =
    let sink = g.K.Sink in
    let held = sink.written c.args.out.now in
    let holds = sink.written c.reply_to.new.out in
    let before = sink.faults c.args.out.now in
    let after = sink.faults c.reply_to.new.out in
    let session = c.in_ok-session.session in
    if_err_and c.from_residual-in_err-session-2.result _ _ (λ e h. subst (EndsSummary c.args.board.parts asked c.args.n held holds before after) (sym h)
    (ends_first c.args.board.parts c.args.board.kept c.args.n session.parts session.lists held holds before after c.in_ok-session.ensures.board c.in_ok-session.ensures.nothing c.in_err-session-2.field-0.0 c.in_err-session-2.ensures.err)) c.from_residual-in_err-session-2.ensures.1

pub returns-clause-ok : goal.returns-clause-ok
returns-clause-ok g c =
    let sink = g.K.Sink in
    let b = c.args.board.parts in
    let mid = c.in_ok-session-2.session in
    let held = sink.written c.args.out.now in
    let between = sink.written c.reply_to.new.out in
    let holds = sink.written c.finish.new.out in
    let session = c.in_ok-session.session in
    let P : BoardParts → Type 0 = λ x. OnOk c.finish.result (Finishes x mid.lists c.args.n c.in_ok-session-2.first between holds) in
    on_ok_weaker c.finish.result (sums_up b c.args.board.kept c.args.n c.in_ok-session-2.first mid.lists held between
    (answers_at b session.parts session.lists mid.lists c.in_ok-session-2.first held between c.in_ok-session.ensures.board c.in_ok-session.ensures.nothing c.in_ok-session-2.ensures.ok) holds)
    (subst P (c.in_ok-session-2.ensures.board ∙ c.in_ok-session.ensures.board) c.finish.ensures.ok)

pub returns-clause-err : goal.returns-clause-err
returns-clause-err g c =
    let sink = g.K.Sink in
    let b = c.args.board.parts in
    let mid = c.in_ok-session-2.session in
    let held = sink.written c.args.out.now in
    let between = sink.written c.reply_to.new.out in
    let holds = sink.written c.finish.new.out in
    let session = c.in_ok-session.session in
    let begun = sink.faults c.args.out.now in
    let before = sink.faults c.reply_to.new.out in
    let after = sink.faults c.finish.new.out in
    let P : BoardParts → Type 0 = λ x. IfErr c.finish.result (EndsFinish x mid.lists c.args.n c.in_ok-session-2.first between holds before after) in
    IfErr-weaker c.finish.result _ _ (ends_summary b c.args.board.kept c.args.n c.in_ok-session-2.first mid.lists held between
    (answers_at b session.parts session.lists mid.lists c.in_ok-session-2.first held between c.in_ok-session.ensures.board c.in_ok-session.ensures.nothing c.in_ok-session-2.ensures.ok) holds begun before after c.in_ok-session-2.ensures.never_falls)
    (subst P (c.in_ok-session-2.ensures.board ∙ c.in_ok-session.ensures.board) c.finish.ensures.err)
