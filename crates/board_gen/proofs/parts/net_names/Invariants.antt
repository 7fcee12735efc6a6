use Rattle.std.proofs.Common.{◌≡◌, ◌-◌, ◌++◌, map}
use Rattle.std.specs.List.{range_with_len}
use Rattle.board_gen.specs.Generated.{net_name_of}
use Rattle.board_gen.proofs.parts.net_names.Given as goal

-- what is there and what is left make up the whole
abbrev pub invariant-loop-i : goal.invariant-loop-i
invariant-loop-i l = l.names ++ map net_name_of (range_with_len l.i (l.end - l.i)) ≡ map net_name_of (range_with_len 1 l.n)
