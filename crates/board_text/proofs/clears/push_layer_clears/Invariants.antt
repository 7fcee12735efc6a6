use Rattle.std.proofs.Common.{◌≡◌, ◌-◌, ◌++◌}
use Rattle.std.specs.List.{flat_map, range_with_len}
use Rattle.board_text.specs.Spelled.{class_clear_lines, class_at}
use Rattle.board_text.proofs.clears.push_layer_clears.Given as goal

-- what is there and the lines that are left make up all lines
abbrev pub invariant-loop-first : goal.invariant-loop-first
invariant-loop-first l = l.text ++ flat_map (λ k. class_clear_lines l.board.parts l.l (class_at k)) (range_with_len l.first (l.classes - l.first)) ≡ l.initial.text ++ flat_map (λ k. class_clear_lines l.board.parts l.l (class_at k)) (range_with_len 0 (l.classes))
