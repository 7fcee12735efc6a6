use Rattle.std.proofs.Common.{List, ℕ, subst}
use Rattle.reply_reader.specs.Said.{IsHeadAt}
use Rattle.reply_reader.proofs.Found.{IfNone_then}
use Rattle.reply_reader.proofs.Standing.{head_stands}
use Rattle.reply_reader.proofs.first_lines.HeadLine.of_words.Goals as goal

pub returns-clause-none : goal.returns-clause-none
returns-clause-none c = IfNone_then c.head.result c.head.ensures.none (λ none x g e.
    none x (subst (λ (ws : List (List ℕ)). IsHeadAt c.args.board.now.parts ws x) e (head_stands c.args.board.now.parts x g)))
