use Rattle.std.proofs.Common.{arith, ◌∙◌}
use Rattle.std.proofs.lemmas.Grind.{common_steps}
use Rattle.gerber_out.proofs.Cutting.{lines-cut, lines-whole}
use Rattle.gerber_out.proofs.lines.next_line.Goals as goal

pub returns-then-byte-eq10-clause-lines : goal.returns-then-byte-eq10-clause-lines
returns-then-byte-eq10-clause-lines c =
    lines-cut c.args.text.now c.loop-index.index (omega arith) c.loop-index.invariant c.if-byte-eq10.true ∙ grind (arith, common_steps)

pub returns-clause-lines : goal.returns-clause-lines
returns-clause-lines c = lines-whole c.args.text.now (omega arith) (λ k l. c.loop-index.invariant k (omega arith))
