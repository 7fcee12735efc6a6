use Rattle.std.proofs.Common.{◌+◌, ◌-◌, ◌++◌, ◌∙◌, ap}
use Rattle.std.specs.List.{flat_map, range_with_len}
use Rattle.board_text.specs.Spelled.{rule_lines}
use Rattle.board_parts.specs.Lookup.{layer_at}
use Rattle.board_reader.proofs.Ranges.{flat_map-next}
use Rattle.board_text.proofs.wires.push_rules.Goals as goal

pub loop-layer-preserved : goal.loop-layer-preserved
loop-layer-preserved c =
    let next = c.loop-layer.layer + 1 in
    let rest = flat_map (λ k. rule_lines c.args.board.now.parts (layer_at k)) (range_with_len next (c.layers-layers.result - next)) in
    ap (λ l. l ++ rest) c.in_ok-push_layer_rules.ensures
    ∙ (flat_map-next (λ k. rule_lines c.args.board.now.parts (layer_at k)) c.loop-layer.layer c.layers-layers.result c.loop-layer.text c.loop-layer-test.true ∙ c.loop-layer.invariant)
