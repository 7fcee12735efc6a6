use Rattle.std.proofs.Common.{List, ℕ, subst}
use Rattle.reply_reader.specs.Said.{IsLegAt}
use Rattle.reply_reader.proofs.Found.{IfNone_then}
use Rattle.reply_reader.proofs.Standing.{leg_stands}
use Rattle.reply_reader.proofs.conns.LegLine.of_words.Goals as goal

pub returns-clause-none : goal.returns-clause-none
returns-clause-none c = IfNone_then c.leg.result c.leg.ensures.none (λ none x g e.
    none x (subst (λ (ws : List (List ℕ)). IsLegAt c.args.board.now.parts ws x) e (leg_stands c.args.board.now.parts x g)))
