-- A rectangle has one entry at most.
use Rattle.std.proofs.Common.{◌≡◌, true, false}
use Rattle.stitch_walk.proofs.Reaching.{when_true, when_false}
use Rattle.stitch_walk.proofs.Sweeping.{enters_if, enters_not, enters_elsewhere}
use Rattle.stitch_walk.proofs.sweeps.enters_from.Goals as goal

pub returns-in_default : goal.returns-in_default
returns-in_default c = (
  λ h. absurd (let f : false ≡ true = h in cc),
  λ f. absurd (enters_not c.args.area c.args.t c.args.r c.entry.result c.entry.ensures c.in_default.is f),
)

pub returns-then-has_point : goal.returns-then-has_point
returns-then-has_point c =
    enters_if c.args.area c.args.t c.args.r c.in-Some.p c.entry.result c.meets.result c.entry.ensures c.in-Some.is (when_true _ _ c.has_point.ensures c.if-has_point.true) c.meets.ensures

pub returns : goal.returns
returns c = (
  λ h. absurd (let f : false ≡ true = h in cc),
  λ f. absurd (enters_elsewhere c.args.area c.args.t c.args.r c.in-Some.p c.entry.result c.entry.ensures c.in-Some.is (when_false _ _ c.has_point.ensures c.if-has_point.false) f),
)
