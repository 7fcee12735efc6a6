use Rattle.std.proofs.Common.{◌≡◌, ap, ◌∙◌, subst}
use Rattle.std.proofs.lemmas.Result.{on_ok_weaker}
use Rattle.geo_rect.specs.declared.ids.Node.{Node}
use Rattle.geo_rect.specs.declared.shapes.Point.{Point}
use Rattle.board_model.specs.declared.made.Leg.TheVariants.{Wire}
use Rattle.route_law.specs.Connections.{IsStraight}
use Rattle.path_trace.specs.Paths.{node_at, bend, IsLed}
use Rattle.path_trace.proofs.Grows.{led_from}
use Rattle.path_trace.proofs.paths.Path.lead_from.Goals as goal

pub returns : goal.returns
returns c =
    let q = c.args.from in
    let old = c.args.self.now in
    let mid = c.push_wire.new.self in
    let new = c.push_wire-2.new.self in
    let corner : c.node_at.result ≡ node_at old.start.layer (bend q old.start) = c.node_at.ensures ∙ ap (λ (p : Point). node_at old.start.layer p) c.bend.ensures in
    let first = subst (λ (u : Node). IsStraight u old.start → IsLed u (Wire old.start) old mid) corner c.in_ok-push_wire.ensures in
    on_ok_weaker c.push_wire-2.result
    (λ second. led_from q old mid new first (subst (λ (u : Node). IsStraight u mid.start → IsLed u (Wire mid.start) mid new) c.node_at-2.ensures second))
    c.push_wire-2.ensures
