use Rattle.std.proofs.Common.{◌≡◌, ◌-◌, ◌++◌}
use Rattle.std.specs.List.{flat_map, range_with_len}
use Rattle.board_text.specs.Spelled.{inner_line, class_at}
use Rattle.board_text.proofs.vias.push_kind_inners.Given as goal

-- what is there and the lines that are left make up all lines
abbrev pub invariant-loop-class : goal.invariant-loop-class
invariant-loop-class l = l.text ++ flat_map (λ k. inner_line l.board.parts l.k (class_at k)) (range_with_len l.class (l.classes - l.class)) ≡ l.initial.text ++ flat_map (λ k. inner_line l.board.parts l.k (class_at k)) (range_with_len 0 (l.classes))
