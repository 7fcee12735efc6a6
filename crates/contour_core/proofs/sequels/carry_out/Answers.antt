use Rattle.std.proofs.Common.{true, List, OnOk, IfErr, subst}
use Rattle.std.proofs.lemmas.Result.{IfErr-weaker, on_ok_weaker}
use Rattle.board_parts.specs.declared.commands.Command.{Command}
use Rattle.board_parts.specs.declared.parts.BoardParts.{BoardParts}
use Rattle.board_reader.specs.Contract.{told_by}
use Rattle.contour_core.specs.Sequels.{EndsOutcome, TellsOutcome}
use Rattle.contour_core.specs.Sessions.{IsUnderway}
use Rattle.contour_core.proofs.Following.{carries-out, ends-carried}
use Rattle.contour_core.proofs.sequels.carry_out.Goals as goal

pub returns-clause-ok : goal.returns-clause-ok
returns-clause-ok g c =
    let sink = g.K.Sink in
    let b = c.args.input.board.parts in
    let session = c.in_ok-session.session in
    let plan = c.args.plan.now in
    let held = sink.written c.args.out.now in
    let between = sink.written c.answer_all.new.out in
    let holds = sink.written c.tell_plan.new.out in
    let P : List Command → Type 0 = λ cs. IsUnderway b true cs session.lists held between in
    let underway = subst P c.as_slice.ensures c.in_ok-session.ensures.ok in
    let Q : BoardParts → Type 0 = λ x. OnOk c.tell_plan.result (TellsOutcome x session.lists plan between holds) in
    on_ok_weaker c.tell_plan.result (carries-out (told_by c.args.input) plan c.args.input.board.kept c.requires.commands session.lists held between holds underway) (subst Q c.in_ok-session.ensures.board c.tell_plan.ensures.ok)

pub returns-clause-err : goal.returns-clause-err
returns-clause-err g c =
    let sink = g.K.Sink in
    let b = c.args.input.board.parts in
    let session = c.in_ok-session.session in
    let plan = c.args.plan.now in
    let held = sink.written c.args.out.now in
    let between = sink.written c.answer_all.new.out in
    let holds = sink.written c.tell_plan.new.out in
    let begun = sink.faults c.args.out.now in
    let before = sink.faults c.answer_all.new.out in
    let after = sink.faults c.tell_plan.new.out in
    let P : List Command → Type 0 = λ cs. IsUnderway b true cs session.lists held between in
    let underway = subst P c.as_slice.ensures c.in_ok-session.ensures.ok in
    let Q : BoardParts → Type 0 = λ x. IfErr c.tell_plan.result (EndsOutcome x session.lists plan between holds before after) in
    IfErr-weaker c.tell_plan.result _ _ (ends-carried (told_by c.args.input) plan c.args.input.board.kept c.requires.commands session.lists held between holds begun before after c.in_ok-session.ensures.never_falls underway)
    (subst Q c.in_ok-session.ensures.board c.tell_plan.ensures.err)
