use Rattle.std.proofs.Common.{arith}
use Rattle.std.proofs.lemmas.Int.{ints}
use Rattle.geo_rect.proofs.Same.{same_interval}
use Rattle.board_gen.proofs.shapes.from_on.Goals as goal

pub returns : goal.returns
returns c = same_interval _ _ (omega (arith, ints)) (omega (arith, ints))
