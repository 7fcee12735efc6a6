use Rattle.std.proofs.Common.{pos, ◌≡◌, ◌+ℤ◌, ◌∙◌, sym, inl, inr, arith}
use Rattle.std.proofs.lemmas.Int.{ints}
use Rattle.stitch_walk.proofs.Reaching.{when_true, when_false}
use Rattle.tile_paint.proofs.Widening.{label_at_foot, label_from_foot, one_more_right, left_end_of}
use Rattle.tile_paint.proofs.widths.widened.Goals as goal

pub returns-then-has_label-clause-inside : goal.returns-then-has_label-clause-inside
returns-then-has_label-clause-inside c =
    let x0 : c.new.result.x0 ≡ c.widened_left-wide.result.x0 = omega (arith, ints) in
    let x1 : c.new.result.x1 ≡ c.args.band.x1 +ℤ pos 1 = omega (arith, ints) in
    let y0 : c.new.result.y0 ≡ c.widened_left-wide.result.y0 = omega (arith, ints) in
    let y1 : c.new.result.y1 ≡ c.widened_left-wide.result.y1 = omega (arith, ints) in
    one_more_right c.widened_left-wide.result c.new.result c.args.t.now.domain c.point_after.result c.widened_left-wide.ensures.inside (c.has_label.ensures.inside c.if-has_label.true) (c.point_after.ensures.x ∙ sym x1) x0 y0 y1

pub returns-then-has_label-clause-widened : goal.returns-then-has_label-clause-widened
returns-then-has_label-clause-widened c =
    let w = c.widened_left-wide.ensures.widened in
    let x0 : c.new.result.x0 ≡ c.widened_left-wide.result.x0 = omega (arith, ints) in
    let x1 : c.new.result.x1 ≡ c.args.band.x1 +ℤ pos 1 = omega (arith, ints) in
    let y0 : c.new.result.y0 ≡ c.widened_left-wide.result.y0 = omega (arith, ints) in
    let y1 : c.new.result.y1 ≡ c.widened_left-wide.result.y1 = omega (arith, ints) in
    record {
      low = y0 ∙ w.low;
      high = y1 ∙ w.high;
      left = left_end_of c.args.t.now.store c.args.band c.widened_left-wide.result c.new.result c.args.label w x0;
      right = inl (x1, label_at_foot c.args.t.now.store c.args.band c.args.label c.point_after.result (c.args.band.x1 +ℤ pos 1) c.point_after.ensures.x (c.point_after.ensures.y ∙ c.first_point.ensures.y) (when_true _ _ c.has_label.ensures.label c.if-has_label.true));
    }

pub returns-clause-widened : goal.returns-clause-widened
returns-clause-widened c =
    let w = c.widened_left-wide.ensures.widened in
    record {
      low = w.low;
      high = w.high;
      left = w.left;
      right = inr (w.right, λ h. when_false _ _ c.has_label.ensures.label c.if-has_label.false (label_from_foot c.args.t.now.store c.args.band c.args.label c.point_after.result (c.args.band.x1 +ℤ pos 1) c.point_after.ensures.x (c.point_after.ensures.y ∙ c.first_point.ensures.y) h));
    }
