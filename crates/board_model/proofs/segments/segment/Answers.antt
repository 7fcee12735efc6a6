use Rattle.std.proofs.Common.{ℤ, arith, to_z, of_z, w32}
use Rattle.std.proofs.lemmas.Int.{ints}
use Rattle.board_model.specs.Shapes.{place_of}
use Rattle.board_model.proofs.Squares.{segment_of}
use Rattle.board_model.proofs.segments.segment.Goals as goal

pub returns : goal.returns
returns c =
    let read : ℤ → ℤ = λ v. to_z w32 (of_z w32 v) in
    let p = c.args.from in
    let q = c.args.to in
    let h = c.args.half in
    segment_of (place_of p) (place_of q) h _ _ _ (read p.x) (read q.x) (read p.y) (read q.y) (read h) (read h) c.of.ensures c.stretch-across.ensures c.stretch-up.ensures
    (omega (arith, ints)) (omega (arith, ints)) (omega (arith, ints)) (omega (arith, ints)) (omega (arith, ints)) (omega (arith, ints))
