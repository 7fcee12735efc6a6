use Rattle.std.proofs.Common.{◌≡◌, ◌-◌, ◌++◌}
use Rattle.std.specs.List.{flat_map, range_with_len}
use Rattle.board_text.specs.Spelled.{inner_lines, kind_at}
use Rattle.board_text.proofs.vias.push_inners.Given as goal

-- what is there and the lines that are left make up all lines
abbrev pub invariant-loop-kind : goal.invariant-loop-kind
invariant-loop-kind l = l.text ++ flat_map (λ k. inner_lines l.board.parts (kind_at k)) (range_with_len l.kind (l.kinds - l.kind)) ≡ l.initial.text ++ flat_map (λ k. inner_lines l.board.parts (kind_at k)) (range_with_len 0 (l.kinds))
