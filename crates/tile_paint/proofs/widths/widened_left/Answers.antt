use Rattle.std.proofs.Common.{pos, ◌≡◌, ◌-ℤ◌, inl, arith}
use Rattle.std.proofs.lemmas.Int.{ints}
use Rattle.stitch_walk.proofs.Reaching.{when_true}
use Rattle.tile_paint.proofs.Widening.{label_at_foot, one_more_left}
use Rattle.tile_paint.proofs.widths.widened_left.Goals as goal

pub returns-then-has_label-clause-inside : goal.returns-then-has_label-clause-inside
returns-then-has_label-clause-inside c =
    let e = c.new.ensures in
    let x0 : c.new.result.x0 ≡ c.args.band.x0 -ℤ pos 1 = omega (arith, ints) in
    let x1 : c.new.result.x1 ≡ c.args.band.x1 = omega (arith, ints) in
    let y0 : c.new.result.y0 ≡ c.args.band.y0 = omega (arith, ints) in
    let y1 : c.new.result.y1 ≡ c.args.band.y1 = omega (arith, ints) in
    one_more_left c.args.band c.new.result c.args.t.now.domain c.point_before.result c.requires.inside (c.has_label.ensures.inside c.if-has_label.true) c.point_before.ensures.x x0 x1 y0 y1

pub returns-then-has_label-clause-widened : goal.returns-then-has_label-clause-widened
returns-then-has_label-clause-widened c =
    let x0 : c.new.result.x0 ≡ c.args.band.x0 -ℤ pos 1 = omega (arith, ints) in
    let x1 : c.new.result.x1 ≡ c.args.band.x1 = omega (arith, ints) in
    let y0 : c.new.result.y0 ≡ c.args.band.y0 = omega (arith, ints) in
    let y1 : c.new.result.y1 ≡ c.args.band.y1 = omega (arith, ints) in
    record {
      low = y0;
      high = y1;
      left = inl (x0, label_at_foot c.args.t.now.store c.args.band c.args.label c.point_before.result (c.args.band.x0 -ℤ pos 1) c.point_before.ensures.x c.point_before.ensures.y (when_true _ _ c.has_label.ensures.label c.if-has_label.true));
      right = x1;
    }
