use Rattle.std.proofs.Common.{ℤ, pos, ◌+ℤ◌, ◌∙◌, subst, arith}
use Rattle.std.proofs.lemmas.Int.{ints}
use Rattle.stitch_walk.proofs.Reaching.{when_true, when_false}
use Rattle.tile_paint.specs.States.{IsReadyFrom}
use Rattle.tile_paint.proofs.Narrowing.{labels_twice}
use Rattle.tile_paint.proofs.Rising.{row_after}
use Rattle.tile_paint.proofs.Widening.{less_left}
use Rattle.tile_paint.proofs.bands.join_bands.Goals as goal

pub loop-area-smaller : goal.loop-area-smaller
loop-area-smaller c =
    let last = (when_true _ _ c.has_row.ensures c.loop-area-test.true).to in
    less_left (c.args.area.y1 +ℤ pos 1) c.loop-area.at.y c.in_ok-at.at.y (omega (arith, ints)) c.in_ok-at.ensures.onward

pub loop-area-preserved : goal.loop-area-preserved
loop-area-preserved c =
    let onward = c.in_ok-at.ensures.onward in
    let from = c.loop-area.invariant.from in
    record {
      domain = c.join_next_band.ensures.domain ∙ c.loop-area.invariant.domain;
      labels = labels_twice c.args.t.now.store c.loop-area.t.store c.join_next_band.new.t.store c.loop-area.invariant.labels c.in_ok-at.ensures.labels;
      from = omega (arith, ints);
      to = c.in_ok-at.ensures.within;
      ready = c.in_ok-at.ensures.ready;
    }

pub returns-clause-ready : goal.returns-clause-ready
returns-clause-ready c =
    let Q : ℤ → Type 0 = λ z. IsReadyFrom c.loop-area.t.store c.args.area c.args.label z in
    subst Q (row_after c.args.area c.loop-area.at.y c.loop-area.invariant.from c.loop-area.invariant.to (when_false _ _ c.has_row.ensures c.loop-area-test.false)) c.loop-area.invariant.ready
