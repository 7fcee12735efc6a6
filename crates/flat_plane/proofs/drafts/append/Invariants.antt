use Rattle.std.proofs.Common.{◌≡◌, ◌++◌, take}
use Rattle.flat_plane.proofs.drafts.append.Given as goal

-- the strips so far are added
abbrev pub invariant-loop-strip : goal.invariant-loop-strip
invariant-loop-strip l = l.list ≡ l.fn.list ++ take l.strip-index l.more
