use Rattle.std.proofs.Common.{arith}
use Rattle.std.proofs.lemmas.Int.{ints, clamps}
use Rattle.board_parts.proofs.boards.Board.gap_to.Goals as goal

pub returns-in-Some-clause-measure : goal.returns-in-Some-clause-measure
returns-in-Some-clause-measure c = record { from = omega (arith, ints, clamps); to = omega (arith, ints, clamps) }
