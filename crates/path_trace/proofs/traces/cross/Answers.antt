use Rattle.std.proofs.Common.{subst}
use Rattle.std.proofs.lemmas.Result.{on_ok_weaker}
use Rattle.geo_rect.specs.declared.ids.Node.{Node}
use Rattle.geo_rect.specs.declared.shapes.Point.{Point}
use Rattle.geo_rect.specs.Distance.{apart, IsAway}
use Rattle.board_model.specs.declared.made.Leg.TheVariants.{Wire}
use Rattle.route_law.specs.Connections.{IsStraight}
use Rattle.path_trace.specs.Paths.{IsLed}
use Rattle.path_trace.proofs.Backwards.{crossed}
use Rattle.path_trace.proofs.traces.cross.Goals as goal

pub returns : goal.returns
returns c =
    let q = c.nearest-from.result in
    let t = c.args.t in
    let old = c.args.path.now in
    let new = c.push_wire.new.self in
    let away = subst (λ (p : Point). IsAway t p (apart q p)) c.place_of.ensures c.nearest-from.ensures.away in
    on_ok_weaker c.push_wire.result
    (λ led. crossed t q old new c.nearest-from.ensures.inside away (subst (λ (u : Node). IsStraight u old.start → IsLed u (Wire old.start) old new) c.node_at.ensures led))
    c.push_wire.ensures
