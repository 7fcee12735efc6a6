use Rattle.std.proofs.Common.{List, sym, subst}
use Rattle.board_parts.specs.declared.parts.BoardParts.{BoardParts}
use Rattle.route_law.specs.declared.replies.Routed.{Routed}
use Rattle.route_law.specs.Steps.{nothing_made}
use Rattle.auto_route.specs.Rounds.{AreRouted}
use Rattle.auto_route.proofs.Touring.{routed_at}
use Rattle.auto_route.proofs.autos.auto.Goals as goal

pub give_back-requires : goal.give_back-requires
give_back-requires g c =
    let b = c.args.s.parts in
    let told = c.in_ok-played.told in
    let played = c.in_ok-played.ensures in
    let here = routed_at b told.rounds told.best played.best.from played.best.to played.rounds in
    let round = subst (λ (rs : List Routed). AreRouted b (nothing_made b) rs) (sym c.best_round.ensures) here in
    record { routed = subst (λ (p : BoardParts). AreRouted p (nothing_made p) c.best_round.result.now) (sym played.board) round }
