use Rattle.std.proofs.Common.{arith}
use Rattle.std.proofs.lemmas.Int.{ints}
use Rattle.tile_paint.proofs.bands.is_near.Goals as goal

pub returns : goal.returns
returns c = (λ h. grind (arith, ints), λ h. grind (arith, ints))
