-- A point past no edge is one of the points.
use Rattle.std.proofs.Common.{refl}
use Rattle.stitch_walk.proofs.Reaching.{past_no_edge, when_false}
use Rattle.stitch_walk.proofs.sides.has_point.Goals as goal

pub returns : goal.returns
returns c = (
  λ _. past_no_edge c.args.r c.args.p
      (when_false _ _ c.begins_after.ensures c.if-begins_after.false)
      (when_false _ _ c.begins_after-2.ensures c.if-begins_after-2.false)
      (when_false _ _ c.begins_after-3.ensures c.if-begins_after-3.false)
      (when_false _ _ c.begins_after-4.ensures c.if-begins_after-4.false),
  λ _. refl,
)
