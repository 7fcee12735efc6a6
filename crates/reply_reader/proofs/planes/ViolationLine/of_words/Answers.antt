use Rattle.std.proofs.Common.{List, ℕ, subst}
use Rattle.std.proofs.lemmas.Option.{IfSome_then}
use Rattle.reply_reader.specs.Said.{IsViolationAt}
use Rattle.reply_reader.proofs.Found.{IfNone_then, violation_of}
use Rattle.reply_reader.proofs.Standing.{violation_stands}
use Rattle.reply_reader.proofs.planes.ViolationLine.of_words.Goals as goal

pub returns-clause-some : goal.returns-clause-some
returns-clause-some c = IfSome_then c.violation.result c.violation.ensures.some (violation_of c.args.board.now.parts c.args.words.now)

pub returns-clause-none : goal.returns-clause-none
returns-clause-none c = IfNone_then c.violation.result c.violation.ensures.none (λ none x g e.
    none x (subst (λ (ws : List (List ℕ)). IsViolationAt c.args.board.now.parts ws x) e (violation_stands c.args.board.now.parts x g)))
