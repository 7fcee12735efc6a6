use Rattle.std.proofs.lemmas.Result.{IfOk-weaker}
use Rattle.contour_core.proofs.Reporting.{text-after}
use Rattle.contour_core.proofs.reports.text_after.Goals as goal

pub returns : goal.returns
returns c =
    let made = c.in_ok-made.made in
    IfOk-weaker c.text_of.result _ _ (λ text h. text-after c.args.board.now.parts c.args.replies.now c.args.subject made.lists text c.args.board.now.kept c.in_ok-made.ensures.state c.in_ok-made.ensures.kept h) c.text_of.ensures
