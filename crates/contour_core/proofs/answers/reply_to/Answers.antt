use Rattle.std.proofs.Common.{◌≡◌, List, OnOk, IfErr, sym, ◌∙◌, ap, subst}
use Rattle.std.proofs.lemmas.Result.{IfOk-weaker, IfErr-weaker}
use Rattle.io_edge.specs.Streams.{Appends}
use Rattle.board_model.specs.declared.made.Conn.{Conn}
use Rattle.board_parts.specs.declared.parts.BoardParts.{BoardParts}
use Rattle.route_law.specs.declared.replies.Reply.{Reply}
use Rattle.reply_text.specs.Texts.{reply_text}
use Rattle.contour_core.specs.Endings.{EndsSending}
use Rattle.contour_core.specs.Sessions.{AnswersWith}
use Rattle.contour_core.proofs.Sent.{of_ok, of_err, answers_with, ends_answer}
use Rattle.contour_core.proofs.answers.reply_to.Goals as goal

pub returns-clause-board : goal.returns-clause-board
returns-clause-board g c =
    IfOk-weaker c.go_on.result _ _ (λ a h. ap (λ x. x.parts) h.0 ∙ c.in_ok-next.ensures.board) c.go_on.ensures.ok

pub returns-clause-ok : goal.returns-clause-ok
returns-clause-ok g c =
    let sink = g.K.Sink in
    let old = c.args.session in
    let next = c.in_ok-next.next in
    let reply = c.in_ok-next.reply in
    let held = sink.written c.args.out.now in
    let holds = sink.written c.send-sent.new.out in
    let board : c.board.result.now.parts ≡ old.parts = c.board.ensures ∙ c.in_ok-next.ensures.board in
    let P : BoardParts → Type 0 = λ b. OnOk c.send-sent.result (Appends held holds (reply_text b c.args.quiet reply)) in
    let sent = subst P board c.send-sent.ensures.ok in
    let Q : List (List Conn) → Type 0 = λ lists. AnswersWith old.parts c.args.quiet old.lists c.args.command reply lists held holds in
    IfOk-weaker c.go_on.result _ _ (λ a h.
    let R : Reply → Type 0 = λ r. AnswersWith old.parts c.args.quiet old.lists c.args.command r a.0.lists held holds in
    subst R (sym h.1) (subst Q (sym (ap (λ x. x.lists) h.0))
    (answers_with old.parts c.args.quiet old.lists c.args.command reply next.lists held holds c.in_ok-next.ensures.step c.in_ok-next.ensures.regular (of_ok _ c.send-sent.result h.2 sent)))) c.go_on.ensures.ok

pub returns-clause-err : goal.returns-clause-err
returns-clause-err g c =
    let sink = g.K.Sink in
    let old = c.args.session in
    let reply = c.in_ok-next.reply in
    let board : c.board.result.now.parts ≡ old.parts = c.board.ensures ∙ c.in_ok-next.ensures.board in
    let P : BoardParts → Type 0 = λ b. IfErr c.send-sent.result (EndsSending (reply_text b c.args.quiet reply) (sink.written c.args.out.now) (sink.written c.send-sent.new.out) (sink.faults c.args.out.now) (sink.faults c.send-sent.new.out)) in
    let ended = subst P board c.send-sent.ensures.err in
    IfErr-weaker c.go_on.result _ _ (λ e same. ends_answer old.parts c.args.quiet old.lists c.args.command reply c.in_ok-next.next.lists (sink.written c.args.out.now) (sink.written c.send-sent.new.out) (sink.faults c.args.out.now) (sink.faults c.send-sent.new.out)
    c.in_ok-next.ensures.step c.in_ok-next.ensures.regular e (of_err _ c.send-sent.result e same ended)) c.go_on.ensures.err
