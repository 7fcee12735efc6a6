use Rattle.std.proofs.Common.{◌≡◌, map, take}
use Rattle.net_trace.specs.Pieces.{spot_of}
use Rattle.net_trace.proofs.copper.spots_of.Given as goal

-- the spots are those of the shapes so far
abbrev pub invariant-loop-shape : goal.invariant-loop-shape
invariant-loop-shape l = l.spots ≡ map spot_of (take l.shape-index l.shapes)
