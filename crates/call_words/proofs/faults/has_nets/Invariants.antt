use Rattle.std.proofs.Common.{ℕ, ◌<◌, List, Contains, get_or, map, string_bytes}
use Rattle.call_words.proofs.faults.has_nets.Given as goal

-- the names so far are names of nets
abbrev pub invariant-loop-name : goal.invariant-loop-name
invariant-loop-name l = (k : ℕ) (d : List ℕ) → k < l.name-index → Contains l.board.parts.net_names (get_or (map string_bytes l.names) k d)
