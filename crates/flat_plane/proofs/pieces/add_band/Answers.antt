use Rattle.flat_plane.proofs.BandRows.{band_rows, left_kept}
use Rattle.flat_plane.proofs.pieces.add_band.Goals as goal

pub returns-clause-keeps : goal.returns-clause-keeps
returns-clause-keeps c p h = c.in_ok-right.ensures.keeps p (c.in_ok-middle.ensures.keeps p (c.in_ok-left.ensures.keeps p h))

pub returns-clause-adds : goal.returns-clause-adds
returns-clause-adds c =
    band_rows c.args.strips.now c.args.brush c.args.band c.in_ok-right.right c.requires.can_paint c.requires.band (record {
      untouched = λ s h n p hp. c.in_ok-right.ensures.keeps p (c.in_ok-middle.ensures.keeps p (c.in_ok-left.ensures.keeps p (c.requires.untouched s h n p hp)));
      left = left_kept c.args.brush c.args.band.rows c.in_ok-left.left c.in_ok-right.right c.args.band.left
          (λ p h. c.in_ok-right.ensures.keeps p (c.in_ok-middle.ensures.keeps p h)) c.in_ok-left.ensures.adds;
      middle = λ p hx hy. c.in_ok-right.ensures.keeps p (c.in_ok-middle.ensures.adds p hx hy);
      right = c.in_ok-right.ensures.adds;
    })
