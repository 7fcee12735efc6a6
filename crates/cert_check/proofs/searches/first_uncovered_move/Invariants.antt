use Rattle.strip_moves.specs.Grounds.{ground_of}
use Rattle.cert_check.specs.Stages.{Followed}
use Rattle.cert_check.proofs.Numbered.{EachBefore}
use Rattle.cert_check.proofs.searches.first_uncovered_move.Given as goal

-- the moves of each entry so far are covered
abbrev pub invariant-loop-n : goal.invariant-loop-n
invariant-loop-n g l = EachBefore (Followed (ground_of l.board.parts l.planes l.net) l.targets l.cert) l.cert.entries l.n
