use Rattle.std.proofs.Common.{take}
use Rattle.strip_moves.specs.Gains.{Gains, IsFromOneOf}
use Rattle.strip_moves.specs.Ways.{IsJumpInto}
use Rattle.strip_moves.proofs.jumps.push_jumps_within.Given as goal

-- the moves so far have what comes into the strips so far
abbrev pub invariant-loop-u : goal.invariant-loop-u
invariant-loop-u g l = Gains l.fn.moves l.moves l.d.origin (IsFromOneOf (take l.u-index l.u-items) (IsJumpInto l.d l.part))
