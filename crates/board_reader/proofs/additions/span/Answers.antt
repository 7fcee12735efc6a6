use Rattle.std.proofs.Common.{arith}
use Rattle.std.proofs.lemmas.Int.{ints}
use Rattle.geo_rect.proofs.Same.{same_interval}
use Rattle.board_reader.proofs.additions.span.Goals as goal

pub returns : goal.returns
returns c = same_interval _ _ (omega (arith, ints)) (omega (arith, ints))
