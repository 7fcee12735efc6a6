use Rattle.std.proofs.Common.{◌≡◌, ◌-◌, ◌++◌}
use Rattle.std.specs.List.{flat_map, range_with_len}
use Rattle.board_text.specs.Spelled.{clear_line, class_at}
use Rattle.board_text.proofs.clears.push_class_clears.Given as goal

-- what is there and the lines that are left make up all lines
abbrev pub invariant-loop-second : goal.invariant-loop-second
invariant-loop-second l = l.text ++ flat_map (λ k. clear_line l.board.parts l.l l.c (class_at k)) (range_with_len l.second (l.classes - l.second)) ≡ l.initial.text ++ flat_map (λ k. clear_line l.board.parts l.l l.c (class_at k)) (range_with_len l.c.0 (l.classes - l.c.0))
