use Rattle.std.proofs.Common.{All, sym, ◌∙◌, subst}
use Rattle.board_parts.specs.declared.parts.BoardParts.{BoardParts}
use Rattle.route_law.specs.Regular.{IsRegularRouted}
use Rattle.auto_route.specs.Tours.{IsTour}
use Rattle.auto_route.proofs.tours.play_next.Goals as goal

pub add-requires-clause-tour : goal.add-requires-clause-tour
add-requires-clause-tour g c =
    let same = c.board.ensures ∙ c.in_ok-session.ensures.board in
    subst (λ (p : BoardParts). IsTour p c.args.tour.now) (sym same) c.requires.tour

pub add-requires-clause-regular : goal.add-requires-clause-regular
add-requires-clause-regular g c =
    let same = c.board.ensures ∙ c.in_ok-session.ensures.board in
    subst (λ (p : BoardParts). All (IsRegularRouted p) c.in_ok-session.round) (sym same) c.in_ok-session.ensures.regular
