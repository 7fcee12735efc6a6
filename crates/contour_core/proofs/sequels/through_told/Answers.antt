use Rattle.std.proofs.Common.{◌≡◌, ◌∙◌, ap}
use Rattle.std.proofs.lemmas.Result.{IfOk-weaker}
use Rattle.board_parts.specs.declared.parts.BoardParts.{BoardParts}
use Rattle.yield_route.specs.Texts.{through_text}
use Rattle.contour_core.proofs.sequels.through_told.Goals as goal

pub returns : goal.returns
returns g c =
    let told = c.in_ok-session.told in
    let board : c.board.result.now.parts ≡ c.args.session.parts = c.board.ensures ∙ c.in_ok-session.ensures.board in
    IfOk-weaker c.through_text.result _ _ (λ text h. record {
      yielded = told;
      new = c.in_ok-session.session.lists;
      run = c.in_ok-session.ensures.run;
      kept = c.in_ok-session.ensures.kept;
      spelled = h ∙ ap (λ (x : BoardParts). through_text x c.args.net told) board;
    }) c.through_text.ensures
