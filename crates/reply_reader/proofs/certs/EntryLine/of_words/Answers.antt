use Rattle.std.proofs.Common.{List, ℕ, subst}
use Rattle.std.proofs.lemmas.Option.{IfSome_then}
use Rattle.reply_reader.specs.Said.{IsEntryAt}
use Rattle.reply_reader.proofs.Found.{IfNone_then, entry_of}
use Rattle.reply_reader.proofs.Standing.{entry_stands}
use Rattle.reply_reader.proofs.certs.EntryLine.of_words.Goals as goal

pub returns-clause-some : goal.returns-clause-some
returns-clause-some c = IfSome_then c.entry.result c.entry.ensures.some (entry_of c.args.board.now.parts c.args.words.now)

pub returns-clause-none : goal.returns-clause-none
returns-clause-none c = IfNone_then c.entry.result c.entry.ensures.none (λ none x g e.
    none x (subst (λ (ws : List (List ℕ)). IsEntryAt c.args.board.now.parts ws x) e (entry_stands c.args.board.now.parts x g)))
