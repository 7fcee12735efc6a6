use Rattle.std.proofs.Common.{refl, arith}
use Rattle.replay_check.proofs.Listing.{not_so, is_so, not_true, same_more, same_there, all_taken}
use Rattle.replay_check.proofs.listed.are_same.Goals as goal

pub returns-then-not-is_same : goal.returns-then-not-is_same
returns-then-not-is_same g c =
    not_so _
    (λ e. not_true _ c.if-not-is_same.ensures
    (same_there c.args.a.now c.loop-i.i c.index-a-i.result c.loop-i-test.true c.index-a-i.is c.args.b.now c.index-b-i.result (omega (arith, c.loop-i-test.true, c.if-a-b.false)) c.index-b-i.is e))

pub loop-i-preserved : goal.loop-i-preserved
loop-i-preserved g c =
    same_more c.args.a.now c.loop-i.i c.index-a-i.result c.loop-i-test.true c.index-a-i.is c.args.b.now c.index-b-i.result (omega (arith, c.loop-i-test.true, c.if-a-b.false)) c.index-b-i.is c.loop-i.invariant (c.if-not-is_same.ensures.0 refl)

pub returns : goal.returns
returns g c = is_so _ (all_taken c.args.a.now c.args.b.now c.loop-i.i c.if-a-b.false c.loop-i-test.false c.loop-i.invariant)
