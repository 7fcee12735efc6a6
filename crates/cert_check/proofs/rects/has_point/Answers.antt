use Rattle.std.proofs.Common.{arith}
use Rattle.std.proofs.lemmas.Int.{ints}
use Rattle.cert_check.proofs.rects.has_point.Goals as goal

pub returns : goal.returns
returns c =
    let e = c.new.ensures in (
      λ t.
          let l = c.lies_in.ensures.0 t in
          record {
            across = record { from = omega (arith, ints, l.across.from, e.x0); to = omega (arith, ints, l.across.to, e.x1) };
            up = record { from = omega (arith, ints, l.up.from, e.y0); to = omega (arith, ints, l.up.to, e.y1) };
          },
      λ h.
          c.lies_in.ensures.1
          (record {
            across = record { from = omega (arith, ints, h.across.from, e.x0); to = omega (arith, ints, h.across.to, e.x1) };
            up = record { from = omega (arith, ints, h.up.from, e.y0); to = omega (arith, ints, h.up.to, e.y1) };
          }),
    )
