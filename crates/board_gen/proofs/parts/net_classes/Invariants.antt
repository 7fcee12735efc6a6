use Rattle.std.proofs.Common.{◌≡◌, ◌-◌, ◌++◌, map}
use Rattle.std.specs.List.{range_with_len}
use Rattle.board_text.specs.Spelled.{class_at}
use Rattle.board_gen.proofs.parts.net_classes.Given as goal

-- what is there and what is left make up the whole
abbrev pub invariant-loop-i : goal.invariant-loop-i
invariant-loop-i l = l.classes ++ map (λ i. class_at 0) (range_with_len l._i (l.end - l._i)) ≡ map (λ i. class_at 0) (range_with_len 1 l.n)
