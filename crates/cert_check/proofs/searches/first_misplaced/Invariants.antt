use Rattle.strip_moves.specs.Grounds.{ground_of}
use Rattle.cert_check.specs.Stages.{Placed}
use Rattle.cert_check.proofs.Numbered.{EachBefore}
use Rattle.cert_check.proofs.searches.first_misplaced.Given as goal

-- each entry so far is well placed
abbrev pub invariant-loop-n : goal.invariant-loop-n
invariant-loop-n g l = EachBefore (Placed (ground_of l.board.parts l.planes l.net)) l.entries l.n
