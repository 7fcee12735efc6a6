use Rattle.std.proofs.Common.{arith, ◌∙◌}
use Rattle.std.proofs.lemmas.Grind.{common_steps}
use Rattle.line_words.proofs.Pieces.{pieces-cut, pieces-whole}
use Rattle.line_words.proofs.lines.next_piece.Goals as goal

pub returns-then-byte-eq10-clause-pieces : goal.returns-then-byte-eq10-clause-pieces
returns-then-byte-eq10-clause-pieces c =
    pieces-cut c.args.text.now c.loop-index.index (omega arith) c.loop-index.invariant c.if-byte-eq10.true ∙ grind (arith, common_steps)

pub returns-clause-pieces : goal.returns-clause-pieces
returns-clause-pieces c = pieces-whole c.args.text.now (omega arith) (λ k l. c.loop-index.invariant k (omega arith))
