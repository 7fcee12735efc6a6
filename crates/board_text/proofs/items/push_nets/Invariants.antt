use Rattle.std.proofs.Common.{◌≡◌, ◌-◌, ◌++◌}
use Rattle.std.specs.List.{flat_map, range_with_len}
use Rattle.board_text.specs.Spelled.{net_line, net_at}
use Rattle.board_text.proofs.items.push_nets.Given as goal

-- what is there and the lines that are left make up all lines
abbrev pub invariant-loop-net : goal.invariant-loop-net
invariant-loop-net l = l.text ++ flat_map (λ k. net_line l.board.parts (net_at k)) (range_with_len l.net (l.nets - l.net)) ≡ l.initial.text ++ flat_map (λ k. net_line l.board.parts (net_at k)) (range_with_len 0 l.nets)
