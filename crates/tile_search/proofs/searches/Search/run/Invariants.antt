use Rattle.std.proofs.Common.{◌-◌, ◌^◌, length}
use Rattle.strip_moves.specs.Grounds.{ground_of}
use Rattle.tile_search.specs.Underway.{IsUnderway}
use Rattle.tile_search.proofs.searches.Search.run.Given as goal

abbrev pub invariant-loop-e : goal.invariant-loop-e
invariant-loop-e g l = IsUnderway (ground_of l.board.parts l.planes l.net) l.sources l.targets l.self

-- each turn settles one more front, and the table has room for fewer than 2^63
abbrev pub decreases-loop-e : goal.decreases-loop-e
decreases-loop-e g l = 2 ^ 63 - length l.self.table
