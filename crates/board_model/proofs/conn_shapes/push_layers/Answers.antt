use Rattle.std.proofs.Common.{◌≡◌, ◌<◌, ◌+◌, ◌-◌, ◌++◌, ◌∙◌, map, ap, arith}
use Rattle.std.specs.List.{range_with_len}
use Rattle.board_parts.specs.Lookup.{layer_at}
use Rattle.board_model.specs.Shapes.{net_shape}
use Rattle.board_model.proofs.Layers.{added_layer}
use Rattle.board_model.proofs.conn_shapes.push_layers.Goals as goal

pub loop-layer-preserved : goal.loop-layer-preserved
loop-layer-preserved c = record {
  added = added_layer (net_shape c.args.net c.args.area) c.args.shapes.now c.loop-layer.shapes c.push.new.self c.args.first.0 c.loop-layer.layer (omega arith) c.loop-layer.invariant.added c.in_ok-push.ensures.ok;
  none = λ h. absurd (omega arith);
}

pub returns : goal.returns
returns c =
    let before : c.args.last.0 < c.args.first.0 = grind arith in
    let none = c.loop-layer.invariant.none before in
    let e : c.loop-layer.layer - c.args.first.0 ≡ c.args.last.0 + 1 - c.args.first.0 = omega arith in
    c.loop-layer.invariant.added ∙ ap (λ n. c.args.shapes.now ++ map (net_shape c.args.net c.args.area) (map layer_at (range_with_len c.args.first.0 n))) e

pub returns-in_ok-push : goal.returns-in_ok-push
returns-in_ok-push c =
    let last : c.loop-layer.layer ≡ c.args.last.0 = omega arith in
    added_layer (net_shape c.args.net c.args.area) c.args.shapes.now c.loop-layer.shapes c.push.new.self c.args.first.0 c.loop-layer.layer (omega arith) c.loop-layer.invariant.added c.in_ok-push.ensures.ok ∙ ap (λ n. c.args.shapes.now ++ map (net_shape c.args.net c.args.area) (map layer_at (range_with_len c.args.first.0 (n + 1 - c.args.first.0)))) last
