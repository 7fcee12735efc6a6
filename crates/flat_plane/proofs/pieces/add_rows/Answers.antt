use Rattle.std.proofs.Common.{arith}
use Rattle.std.proofs.lemmas.Int.{ints, clamps, by_lt_z}
use Rattle.flat_plane.proofs.RowsLeft.{rows_fewer}
use Rattle.flat_plane.proofs.pieces.add_rows.Goals as goal

pub returns-then-band-rest-clause-keeps : goal.returns-then-band-rest-clause-keeps
returns-then-band-rest-clause-keeps c p h = c.in_ok-new.ensures.keeps p (c.loop-new.invariant.keeps p h)

pub returns-then-band-rest-clause-adds : goal.returns-then-band-rest-clause-adds
returns-then-band-rest-clause-adds c p inside hy =
    let a = hy.from in let b = hy.to in let l = c.band_at-band.ensures.low in let last = c.loop-new.invariant.last in let t = c.if-band-rest.true in
    by_lt_z p.y c.loop-new.rest.low
    (λ below. c.in_ok-new.ensures.keeps p (c.loop-new.invariant.so_far p inside a below))
    (λ from. c.in_ok-new.ensures.adds p inside (record { from = omega (arith, ints); to = omega (arith, ints) }))

pub loop-new-smaller : goal.loop-new-smaller
loop-new-smaller c =
    rows_fewer c.loop-new.rest c.band_at-band.result.rows c.part_after-rest.result c.band_at-band.ensures.low c.part_after-rest.ensures

pub loop-new-preserved : goal.loop-new-preserved
loop-new-preserved c =
    let i1 = c.loop-new.invariant.inside.from in let i2 = c.loop-new.invariant.inside.to in
    let n1 = c.part_after-rest.ensures.low in let n2 = c.part_after-rest.ensures.high in
    let l = c.band_at-band.ensures.low in
    record {
      draft = c.in_ok-new.ensures.draft;
      untouched = λ s h n p hp. c.in_ok-new.ensures.keeps p (c.loop-new.invariant.untouched s h n p hp);
      keeps = λ p h. c.in_ok-new.ensures.keeps p (c.loop-new.invariant.keeps p h);
      inside = record { from = omega (arith, ints, clamps); to = omega (arith, ints, clamps) };
      last = let e = c.loop-new.invariant.last in omega (arith, ints, clamps);
      so_far = λ p inside from less.
          by_lt_z p.y c.loop-new.rest.low
          (λ below. c.in_ok-new.ensures.keeps p (c.loop-new.invariant.so_far p inside from below))
          (λ reach. c.in_ok-new.ensures.adds p inside (record { from = omega (arith, ints); to = omega (arith, ints, clamps) }));
    }
