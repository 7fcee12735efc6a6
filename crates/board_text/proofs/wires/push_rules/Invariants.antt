use Rattle.std.proofs.Common.{◌≡◌, ◌-◌, ◌++◌}
use Rattle.std.specs.List.{flat_map, range_with_len}
use Rattle.board_text.specs.Spelled.{rule_lines}
use Rattle.board_parts.specs.Lookup.{layer_at}
use Rattle.board_text.proofs.wires.push_rules.Given as goal

-- what is there and the lines that are left make up all lines
abbrev pub invariant-loop-layer : goal.invariant-loop-layer
invariant-loop-layer l = l.text ++ flat_map (λ k. rule_lines l.board.parts (layer_at k)) (range_with_len l.layer (l.layers - l.layer)) ≡ l.initial.text ++ flat_map (λ k. rule_lines l.board.parts (layer_at k)) (range_with_len 0 l.layers)
