use Rattle.std.proofs.Common.{refl, arith}
use Rattle.net_trace.proofs.Sharing.{meet_shares}
use Rattle.net_trace.proofs.touching.share_point.Goals as goal

pub returns-in-Some : goal.returns-in-Some
returns-in-Some c = (λ t. meet_shares c.args.a c.args.b c.in-Some.field-0 (omega (arith, c.if-a-b.false)) c.in-Some.ensures.some, λ s. refl)
