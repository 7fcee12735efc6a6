use Rattle.std.proofs.Common.{◌≡◌, sym, ap, subst}
use Rattle.board_parts.specs.declared.parts.BoardParts.{BoardParts}
use Rattle.board_parts.specs.Commands.{IsCommandOf}
use Rattle.route_law.specs.Regular.{IsRegular}
use Rattle.step_laws.proofs.Regular.{step_regular}
use Rattle.session_core.specs.Sessions.{Sitting}
use Rattle.session_core.proofs.sessions.Session.apply.Goals as goal

pub returns-clause-regular : goal.returns-clause-regular
returns-clause-regular g c =
    let b = c.self.inside.board.parts in
    let reply = c.in_ok-planes.field-0.reply in
    let same : b ≡ c.args.self.parts = ap (λ (s : Sitting). s.parts) c.self.view_is in
    let known : IsCommandOf b c.args.c.now = subst (λ (p : BoardParts). IsCommandOf p c.args.c.now) (sym same) c.requires.known in
    subst (λ (p : BoardParts). IsRegular p reply) same
    (step_regular b c.self.inside.made.lists c.answer.new.made.lists c.args.c.now reply c.self.invariant.board c.self.invariant.state known c.in_ok-planes.ensures.step)
