use Rattle.std.proofs.Common.{take}
use Rattle.route_law.specs.declared.certs.Origin.TheVariants.{Source}
use Rattle.strip_moves.specs.Gains.{Gains, IsFromOneOf}
use Rattle.strip_moves.specs.Ways.{IsStartIn}
use Rattle.strip_moves.proofs.starts.push_starts.Given as goal

-- the starts so far are those in the strips so far
abbrev pub invariant-loop-u : goal.invariant-loop-u
invariant-loop-u g l = Gains l.fn.starts l.starts (Source l.number) (IsFromOneOf (take l.u-index l.u-items) (IsStartIn l.source l.net))
