use Rattle.std.proofs.Common.{◌≡◌, ◌∙◌, List, All, ap, subst, sym}
use Rattle.std.proofs.lemmas.Result.{IfOk-weaker}
use Rattle.board_model.specs.declared.made.Conn.{Conn}
use Rattle.board_parts.specs.declared.parts.BoardParts.{BoardParts}
use Rattle.auto_route.specs.Texts.{auto_text}
use Rattle.route_law.specs.Regular.{IsRegularRouted}
use Rattle.contour_core.proofs.sequels.rounds_told.Goals as goal

pub auto_text-requires-clause-regular : goal.auto_text-requires-clause-regular
auto_text-requires-clause-regular g c =
    let board : c.board.result.now.parts ≡ c.args.session.parts = c.board.ensures ∙ c.in_ok-session.ensures.board in
    let P : BoardParts → Type 0 = λ x. All (All (IsRegularRouted x)) c.in_ok-session.told.rounds in
    subst P (sym board) c.in_ok-session.ensures.regular

pub returns : goal.returns
returns g c =
    let told = c.in_ok-session.told in
    let board : c.board.result.now.parts ≡ c.args.session.parts = c.board.ensures ∙ c.in_ok-session.ensures.board in
    let lists = c.made.ensures.lists ∙ c.in_ok-session.ensures.state in
    IfOk-weaker c.auto_text.result _ _ (λ text h. record {
      played = told;
      counted = c.in_ok-session.ensures.count;
      rounds = c.in_ok-session.ensures.rounds;
      best = c.in_ok-session.ensures.best;
      spelled = h ∙ ap (λ (x : BoardParts). auto_text x c.made.result.now.lists told) board ∙ ap (λ (ls : List (List Conn)). auto_text c.args.session.parts ls told) lists;
    }) c.auto_text.ensures
