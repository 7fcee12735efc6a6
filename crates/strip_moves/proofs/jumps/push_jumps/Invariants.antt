use Rattle.std.proofs.Common.{take}
use Rattle.strip_moves.specs.Gains.{Gains, IsFromOneOf}
use Rattle.strip_moves.specs.Ways.{IsJumpThrough}
use Rattle.strip_moves.proofs.jumps.push_jumps.Given as goal

-- the moves so far have what comes through the via strips so far
abbrev pub invariant-loop-w : goal.invariant-loop-w
invariant-loop-w g l = Gains l.fn.moves l.moves l.d.origin (IsFromOneOf (take l.w-index l.w-items) (IsJumpThrough (g.P.Plane.strips l.plane) l.d))
