use Rattle.std.proofs.Common.{List, sym, subst}
use Rattle.demo_text.specs.Bounds.{AreCounted}
use Rattle.route_law.specs.declared.replies.Routed.{Routed}
use Rattle.auto_route.proofs.Touring.{counted_at}
use Rattle.auto_route.proofs.texts.auto_text.Goals as goal

pub cost_in-requires : goal.cost_in-requires
cost_in-requires c =
    let b = c.args.board.now.parts in
    let told = c.args.told.now in
    subst (λ (rs : List Routed). AreCounted rs) (sym c.best_round.ensures) (counted_at b told.rounds told.best c.requires.best.from c.requires.best.to c.requires.rounds c.args.board.now.kept)
