use Rattle.std.proofs.Common.{take}
use Rattle.flat_plane.specs.Draft.{IsJoinOf}
use Rattle.flat_plane.proofs.drafts.joined_with.Given as goal

-- the strips so far are joined with the piece
abbrev pub invariant-loop-strip : goal.invariant-loop-strip
invariant-loop-strip l = IsJoinOf (take l.strip-index l.draft) l.fn.piece l.whole
