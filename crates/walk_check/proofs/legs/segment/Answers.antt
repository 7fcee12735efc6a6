use Rattle.std.proofs.Common.{ℤ, pos, refl, arith, to_z, of_z, w32}
use Rattle.std.proofs.lemmas.Int.{ints}
use Rattle.board_model.specs.Shapes.{place_of}
use Rattle.board_model.proofs.Squares.{segment_of}
use Rattle.walk_check.proofs.legs.segment.Goals as goal

pub returns : goal.returns
returns c =
    let read : ℤ → ℤ = λ v. to_z w32 (of_z w32 v) in
    let p = c.args.from in
    let q = c.args.to in
    segment_of (place_of p) (place_of q) (pos 0) _ _ _ (read p.x) (read q.x) (read p.y) (read q.y) (pos 0) (pos 0) c.of.ensures c.stretch.ensures c.stretch-2.ensures
    (omega (arith, ints)) (omega (arith, ints)) (omega (arith, ints)) (omega (arith, ints)) refl refl
