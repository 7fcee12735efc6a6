use Rattle.std.proofs.Common.{◌∙◌, sym, subst}
use Rattle.std.proofs.lemmas.Result.{IfErr-weaker, on_ok_weaker}
use Rattle.contour_core.specs.Demos.{EndsDemo, SumsUp}
use Rattle.contour_core.proofs.Sent.{if_err_and}
use Rattle.contour_core.proofs.SummedUp.{ends_demo, ends_read, nothing_written, of_generated}
use Rattle.contour_core.proofs.demos.demo.Goals as goal

pub returns-in_err-text-clause-err : goal.returns-in_err-text-clause-err
returns-in_err-text-clause-err g c =
    let sink = g.K.Sink in
    let held = sink.written c.args.out.now in
    let faults = sink.faults c.args.out.now in
    if_err_and c.from_residual.result _ _ (λ e h. subst (EndsDemo c.args.n held held faults faults) (sym h) (nothing_written c.args.n c.requires held faults)) c.from_residual.ensures.1

pub returns-in_err-input-clause-err : goal.returns-in_err-input-clause-err
returns-in_err-input-clause-err g c =
    let sink = g.K.Sink in
    let held = sink.written c.args.out.now in
    let faults = sink.faults c.args.out.now in
    if_err_and c.from_residual-in_err-input.result _ _ (λ e h. subst (EndsDemo c.args.n held held faults faults) (sym h)
    (ends_read c.args.n c.requires c.as_slice.result.now held faults (c.as_slice.ensures ∙ c.in_ok-text.ensures.text) c.in_err-input.field-0.0 c.in_err-input.ensures.reading)) c.from_residual-in_err-input.ensures.1

pub returns-clause-ok : goal.returns-clause-ok
returns-clause-ok g c =
    let sink = g.K.Sink in
    on_ok_weaker c.demonstrate.result (of_generated c.args.n c.requires c.as_slice.result.now c.in_ok-input.input (c.as_slice.ensures ∙ c.in_ok-text.ensures.text) c.in_ok-input.ensures.reading
    (λ b cs. SumsUp b cs c.args.n (sink.written c.args.out.now) (sink.written c.demonstrate.new.out))) c.demonstrate.ensures.ok

pub returns-clause-err : goal.returns-clause-err
returns-clause-err g c =
    let sink = g.K.Sink in
    IfErr-weaker c.demonstrate.result _ _ (ends_demo c.args.n c.requires c.as_slice.result.now c.in_ok-input.input (c.as_slice.ensures ∙ c.in_ok-text.ensures.text) c.in_ok-input.ensures.reading
    (sink.written c.args.out.now) (sink.written c.demonstrate.new.out) (sink.faults c.args.out.now) (sink.faults c.demonstrate.new.out)) c.demonstrate.ensures.err
