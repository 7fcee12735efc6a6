use Rattle.std.proofs.Common.{◌≡◌, ◌∙◌, sym, subst, refl, List, [], IsErrAnd, arith}
use Rattle.std.proofs.lemmas.List.{take_all}
use Rattle.board_parts.specs.declared.commands.Command.{Command}
use Rattle.board_model.specs.declared.made.Conn.{Conn}
use Rattle.board_parts.specs.declared.parts.BoardParts.{BoardParts}
use Rattle.contour_core.specs.Endings.{EndsAnswers}
use Rattle.contour_core.specs.Sessions.{IsUnderway}
use Rattle.contour_core.proofs.Replied.{underway_none, underway_next, answers_all, answers_first, ends_all}
use Rattle.contour_core.proofs.Sent.{if_err_and}
use Rattle.contour_core.proofs.answers.answer_all.Goals as goal

pub returns-in_err-session-clause-err : goal.returns-in_err-session-clause-err
returns-in_err-session-clause-err g c =
    let sink = g.K.Sink in
    let b = c.args.board.parts in
    if_err_and c.from_residual.result _ _ (λ e h. subst (EndsAnswers b c.args.quiet c.args.commands.now (sink.written c.args.out.now) (sink.written c.args.out.now) (sink.faults c.args.out.now) (sink.faults c.args.out.now)) (sym h)
    (answers_first b c.args.board.kept c.args.quiet c.args.commands.now 0 _ (sink.written c.args.out.now) (sink.written c.args.out.now) c.requires (underway_none b c.args.quiet (sink.written c.args.out.now)))) c.from_residual.ensures.1

pub returns-in_err-session-2-clause-err : goal.returns-in_err-session-2-clause-err
returns-in_err-session-2-clause-err g c =
    let sink = g.K.Sink in
    let b = c.args.board.parts in
    let i = c.loop-command.invariant in
    let old = c.loop-command.session in
    let f = i.falls in
    if_err_and c.from_residual-in_err-session-2.result _ _ (λ e h. subst (EndsAnswers b c.args.quiet c.args.commands.now (sink.written c.args.out.now) (sink.written c.answer.new.out) (sink.faults c.args.out.now) (sink.faults c.answer.new.out)) (sym h)
    (ends_all b c.args.board.kept old.parts c.args.quiet c.args.commands.now c.loop-command.command-index _ old.lists (sink.written c.args.out.now) (sink.written c.loop-command.out) (sink.written c.answer.new.out) (sink.faults c.args.out.now) (sink.faults c.loop-command.out) (sink.faults c.answer.new.out)
    i.board (omega arith) c.requires f i.underway c.in_err-session-2.field-0.0 c.in_err-session-2.ensures.err)) c.from_residual-in_err-session-2.ensures.1

pub loop-command-init : goal.loop-command-init
loop-command-init g c =
    let sink = g.K.Sink in
    let P : List (List Conn) → Type 0 = λ lists. IsUnderway c.args.board.parts c.args.quiet [] lists (sink.written c.args.out.now) (sink.written c.args.out.now) in
    record {
      underway = subst P (sym c.in_ok-session.ensures.nothing) (underway_none c.args.board.parts c.args.quiet (sink.written c.args.out.now));
      board = c.in_ok-session.ensures.board;
      setup = refl;
      falls = omega arith;
    }

pub loop-command-preserved : goal.loop-command-preserved
loop-command-preserved g c =
    let sink = g.K.Sink in
    let i = c.loop-command.invariant in
    let old = c.loop-command.session in
    let new = c.in_ok-session-2.session in
    record {
      underway = underway_next c.args.board.parts old.parts c.args.quiet c.args.commands.now c.loop-command.command-index _ old.lists new.lists (sink.written c.args.out.now) (sink.written c.loop-command.out) (sink.written c.answer.new.out) i.board (omega arith) i.underway c.in_ok-session-2.ensures.ok;
      board = c.in_ok-session-2.ensures.board ∙ i.board;
      setup = c.in_ok-session-2.ensures.setup ∙ i.setup;
      falls = omega (arith, i.falls, c.in_ok-session-2.ensures.never_falls);
    }

pub returns-clause-ok : goal.returns-clause-ok
returns-clause-ok g c =
    let sink = g.K.Sink in
    let i = c.loop-command.invariant in
    let b = c.args.board.parts in
    let P : List Command → Type 0 = λ cs. IsUnderway b c.args.quiet cs c.loop-command.session.lists (sink.written c.args.out.now) (sink.written c.loop-command.out) in
    subst P (take_all c.loop-command.command-index c.args.commands.now (omega arith)) i.underway

pub returns-clause-all : goal.returns-clause-all
returns-clause-all g c =
    let sink = g.K.Sink in
    let i = c.loop-command.invariant in
    let b = c.args.board.parts in
    let P : List Command → Type 0 = λ cs. IsUnderway b c.args.quiet cs c.loop-command.session.lists (sink.written c.args.out.now) (sink.written c.loop-command.out) in
    answers_all b c.args.board.kept c.args.quiet c.args.commands.now c.loop-command.session.lists (sink.written c.args.out.now) (sink.written c.loop-command.out) c.requires
    (subst P (take_all c.loop-command.command-index c.args.commands.now (omega arith)) i.underway)
