use Rattle.strip_moves.specs.Grounds.{ground_of}
use Rattle.cert_check.specs.Stages.{Founded}
use Rattle.cert_check.proofs.Numbered.{EachBefore}
use Rattle.cert_check.proofs.searches.first_unfounded.Given as goal

-- each entry so far comes from where it says
abbrev pub invariant-loop-n : goal.invariant-loop-n
invariant-loop-n g l = EachBefore (Founded (ground_of l.board.parts l.planes l.net) l.sources l.entries) l.entries l.n
