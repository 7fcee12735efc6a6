use Rattle.std.proofs.Common.{take}
use Rattle.tile_search.specs.Goals.{IsLeastGoal, IsGoalOf}
use Rattle.tile_search.proofs.ends.goal_of.Given as goal

-- the cheapest of the goals in the boxes so far
abbrev pub invariant-loop-target : goal.invariant-loop-target
invariant-loop-target l = IsLeastGoal (IsGoalOf (take l.target-index l.targets) l.number l.e) l.least
