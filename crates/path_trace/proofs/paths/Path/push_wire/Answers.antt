use Rattle.std.proofs.Common.{refl}
use Rattle.path_trace.specs.Paths.{legs_of}
use Rattle.path_trace.proofs.Leads.{led_joined}
use Rattle.path_trace.proofs.paths.Path.push_wire.Goals as goal

pub returns-then-goes_straight : goal.returns-then-goes_straight
returns-then-goes_straight c =
    let p = c.args.self.now in
    λ s. record { start = refl; legs = led_joined c.args.from p.start (legs_of p) s (c.goes_straight.ensures.0 c.if-goes_straight.true) }
