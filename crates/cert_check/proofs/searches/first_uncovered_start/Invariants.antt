use Rattle.strip_moves.specs.Grounds.{ground_of}
use Rattle.cert_check.specs.Stages.{Started}
use Rattle.cert_check.proofs.Numbered.{EachBefore}
use Rattle.cert_check.proofs.searches.first_uncovered_start.Given as goal

-- the starts of each source box so far are covered
abbrev pub invariant-loop-n : goal.invariant-loop-n
invariant-loop-n g l = EachBefore (Started (ground_of l.board.parts l.planes l.net) l.targets l.cert) l.sources l.n
