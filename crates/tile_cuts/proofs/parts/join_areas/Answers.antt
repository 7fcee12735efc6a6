-- The lower left corner is that of the first part, and the upper right one that of the second.
use Rattle.std.proofs.Common.{arith}
use Rattle.std.proofs.lemmas.Int.{ints}
use Rattle.tile_cuts.proofs.Splitting.{corners_parts}
use Rattle.tile_cuts.proofs.parts.join_areas.Goals as goal

pub returns : goal.returns
returns c =
    corners_parts c.args.first c.args.second c.requires.0 c.new.result c.requires.1 (omega (arith, ints)) (omega (arith, ints)) (omega (arith, ints)) (omega (arith, ints))
