use Rattle.std.proofs.Common.{take}
use Rattle.flat_plane.specs.Painting.{HoldsOutside, HoldsUntouched, IsDraftOf}
use Rattle.flat_plane.proofs.outside.outside.Given as goal

-- the draft has what is left of the strips so far
abbrev pub invariant-loop-strip : goal.invariant-loop-strip
invariant-loop-strip l = record {
  draft : IsDraftOf l.strips l.brush l.draft;
  untouched : HoldsUntouched l.strips l.brush l.draft;
  outside : HoldsOutside (take l.strip-index l.strips) l.brush l.draft;
}
