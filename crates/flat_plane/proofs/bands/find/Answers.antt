use Rattle.std.proofs.Common.{◌≡◌, true, false}
use Rattle.flat_plane.proofs.BandFacts.{held_on}
use Rattle.flat_plane.proofs.bands.find.Goals as goal

pub loop-strip-preserved : goal.loop-strip-preserved
loop-strip-preserved c =
    held_on c.args.strips.now c.loop-strip.strip-index c.strip-item.result c.args.p c.loop-strip-test.true c.strip-item.is
    (λ h. let yes' : c.has_point.result ≡ true = c.has_point.ensures.1 h in let no' : c.has_point.result ≡ false = c.if-has_point.false in cc)
    c.loop-strip.invariant
