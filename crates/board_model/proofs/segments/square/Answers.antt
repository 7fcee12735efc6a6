use Rattle.std.proofs.Common.{arith, to_z, of_z, w32}
use Rattle.std.proofs.lemmas.Int.{ints}
use Rattle.board_model.specs.Shapes.{place_of}
use Rattle.board_model.proofs.Squares.{square_of}
use Rattle.board_model.proofs.segments.square.Goals as goal

pub returns : goal.returns
returns c =
    square_of (place_of c.args.middle) c.args.half (to_z w32 (of_z w32 c.args.half)) _ c.segment.ensures (omega (arith, ints))
